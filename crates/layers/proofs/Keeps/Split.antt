-- Split means something sound, and its steps keep points 1 to 4 of the bus. Assumes nothing.
use Rattle.std.specs.Prelude.{◌≡◌, ℕ, ◌+◌, ◌<◌, ◌≤◌, max, Bool, true, false, cond, ◌⊎◌, MatchBool, nat_lt, refl}
use Rattle.std.proofs.Common.{inl, inr, sym, ap, subst, arith}
use Rattle.std.proofs.lemmas.Bool.{both_ways, cases_Bool, le-ltb, lt-ltb, ltb-false, ltb-true}
use Rattle.layers.proofs.Keeps.Layer.{Seen, layer, request}
use Rattle.bus.specs.Meaning.{Answers, Keeps, Meaning, IsSound}
use Rattle.bus.specs.Request.{word_of}
use Rattle.layers.specs.Split.{SplitSteps, split, split_means}
use Rattle.bus.specs.declared.request.Action.{Action}
use Rattle.bus.specs.declared.request.Answer.{Answer}
use Rattle.bus.specs.declared.request.Request.{Request}
use Rattle.layers.specs.declared.split.Split.{Split}

-- what holds of two numbers holds of the one that a test picks
pick : (P : ℕ → Type 0) (b : Bool) (m n : ℕ) → P m → P n → P (cond b m n)
pick P true m n h k = h
pick P false m n h k = k

split_sound : (mark : ℕ) (one two : Meaning) → IsSound one → IsSound two → IsSound (split mark one two)
split_sound mark one two h k =
    record {
      bytes = λ x. pick (λ n. n < 256) (nat_lt x (word_of mark)) (one.byte x) (two.byte x) (h.bytes x) (k.bytes x);
      waits =
          λ x. pick (λ n. n ≤ max one.longest two.longest) (nat_lt x.address (word_of mark)) _ _
          (omega (arith, h.waits x)) (omega (arith, k.waits x));
      longest = omega (arith, h.longest, k.longest);
    }

module _ (mark address : ℕ) (y : Action) where
  -- the mark divides no word
  below : address < word_of mark → (x : ℕ) → word_of x ≡ word_of address → nat_lt x (word_of mark) ≡ true
  below l x e = lt-ltb x (word_of mark) (omega arith)

  above : word_of mark ≤ address → (x : ℕ) → word_of x ≡ word_of address → nat_lt x (word_of mark) ≡ false
  above l x e = le-ltb x (word_of mark) (omega arith)

  first_asked : (one one' two : Meaning) → address < word_of mark → {a : Answer}
      → Answers one (request address y) a one'
      → Answers (split mark one two) (request address y) a (split mark one' two)
  first_asked one one' two l h =
      layer (
      record {
        through =
            record {
              waits = rw (below l address refl);
              unreadable = rw (below l (word_of address) (omega arith));
              unwritable = rw (below l (word_of address) (omega arith));
              low = refl;
              bytes = λ i s. rw (below l (word_of address + i) (omega arith));
            };
        seen = λ x. seen x (cases_Bool (nat_lt x (word_of mark)));
        waits = λ e. rw (below l address refl);
        unreadable = λ w. ap (λ b. cond (nat_lt w (word_of mark)) b (two.unreadable w)) (h.unreadable w);
        unwritable = λ w. ap (λ b. cond (nat_lt w (word_of mark)) b (two.unwritable w)) (h.unwritable w);
        longest = ap (λ n. max n two.longest) h.longest;
      }) h
    where
      seen : (x : ℕ) → (nat_lt x (word_of mark) ≡ true) ⊎ (nat_lt x (word_of mark) ≡ false)
          → Seen (split mark one two) (split mark one' two) one one' address address x
      seen x (inl t) = inl (x, record { before = rw t; after = rw t; there = λ e. omega arith; back = λ e. e })
      seen x (inr f) = inr (record { stays = rw f; apart = λ e. both_ways _ f (below l x e) })

  second_asked : (one two two' : Meaning) → word_of mark ≤ address → {a : Answer}
      → Answers two (request address y) a two'
      → Answers (split mark one two) (request address y) a (split mark one two')
  second_asked one two two' l h =
      layer (
      record {
        through =
            record {
              waits = rw (above l address refl);
              unreadable = rw (above l (word_of address) (omega arith));
              unwritable = rw (above l (word_of address) (omega arith));
              low = refl;
              bytes = λ i s. rw (above l (word_of address + i) (omega arith));
            };
        seen = λ x. seen x (cases_Bool (nat_lt x (word_of mark)));
        waits = λ e. rw (above l address refl);
        unreadable = λ w. ap (cond (nat_lt w (word_of mark)) (one.unreadable w)) (h.unreadable w);
        unwritable = λ w. ap (cond (nat_lt w (word_of mark)) (one.unwritable w)) (h.unwritable w);
        longest = ap (max one.longest) h.longest;
      }) h
    where
      seen : (x : ℕ) → (nat_lt x (word_of mark) ≡ true) ⊎ (nat_lt x (word_of mark) ≡ false)
          → Seen (split mark one two) (split mark one two') two two' address address x
      seen x (inl t) = inr (record { stays = rw t; apart = λ e. both_ways _ (above l x e) t })
      seen x (inr f) = inl (x, record { before = rw f; after = rw f; there = λ e. omega arith; back = λ e. e })

module _ {A B : Type 0} {meansA : A → Meaning} {meansB : B → Meaning}
    {stepsA : A → Request → Answer → A → Type 0} {stepsB : B → Request → Answer → B → Type 0}
    (keepsA : Keeps meansA stepsA) (keepsB : Keeps meansB stepsB) where
  sound_of : (mark : ℕ) (one : A) (two : B) → IsSound (split mark (meansA one) (meansB two))
  sound_of mark one two = split_sound mark (meansA one) (meansB two) (keepsA.sound one) (keepsB.sound two)

  tells : (s : Split A B) (q : Request) (a : Answer) (t : Split A B) → SplitSteps stepsA stepsB s q a t
      → Answers (split_means meansA meansB s) q a (split_means meansA meansB t)
  tells s q a t h =
      subst (λ k. Answers m q a (split k (meansA t.first) (meansB t.second))) (sym h.0)
      (go (nat_lt q.address (word_of s.mark)) refl h.1)
    where
      m : Meaning
      m = split_means meansA meansB s

      go : (b : Bool) → nat_lt q.address (word_of s.mark) ≡ b
          → MatchBool b
          (stepsA s.first q a t.first × (t.second ≡ s.second))
          (stepsB s.second q a t.second × (t.first ≡ s.first))
          → Answers m q a (split s.mark (meansA t.first) (meansB t.second))
      go true e k =
          subst (λ u. Answers m q a (split s.mark (meansA t.first) (meansB u))) (sym k.1)
          (first_asked s.mark q.address q.action (meansA s.first) (meansA t.first) (meansB s.second)
          (ltb-true _ _ e) (keepsA.tells s.first q a t.first k.0))
      go false e k =
          subst (λ u. Answers m q a (split s.mark (meansA u) (meansB t.second))) (sym k.1)
          (second_asked s.mark q.address q.action (meansA s.first) (meansB s.second) (meansB t.second)
          (ltb-false _ _ e) (keepsB.tells s.second q a t.second k.0))

  pub split_keeps : Keeps (split_means meansA meansB) (SplitSteps stepsA stepsB)
  split_keeps = record { sound = λ s. sound_of s.mark s.first s.second; tells = tells }
