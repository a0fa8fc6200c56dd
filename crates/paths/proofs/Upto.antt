-- Numbers below a bound, each with its proof. Assumes nothing.
use Rattle.std.proofs.Common.{◌≡◌, ℕ, zero, suc, ◌<◌, ◌⊎◌, sym, subst, inl, inr, arith}
use Rattle.std.proofs.lemmas.Bool.{cases_eq}

-- a proof for each number below a bound
abbrev pub Upto : (ℕ → Type 0) → ℕ → Type 0
Upto P zero = Unit {0}
Upto P (suc n) = Upto P n × P n

-- one proof more, so that a table of them has one on each line
infixl 5 ◌▹◌
abbrev pub ◌▹◌ : {A B : Type 0} → A → B → A × B
◌▹◌ proofs proof = (proofs, proof)

pub among : (P : ℕ → Type 0) (m n : ℕ) → n < m → Upto P m → P n
among P zero n h t = absurd (omega arith)
among P (suc m) n h t = go (cases_eq n m) t.1 (λ l. among P m n l t.0)
  where
    go : (n ≡ m) ⊎ (n ≡ m → ⊥) → P m → (n < m → P n) → P n
    go (inl e) this those = subst P (sym e) this
    go (inr e) this those = those (omega arith)
