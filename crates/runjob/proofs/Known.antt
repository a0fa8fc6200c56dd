-- Known bytes, taken and appended one part after the other. Assumes nothing.
use Rattle.std.proofs.Common.{◌≡◌, ◌≤◌, length, take, ℕ, List, ◌++◌, Some, None, ap, sym, ◌∙◌, append_assoc}
use Rattle.std.proofs.Common.{Ok, Err, Result, IsErr, MatchResult, IfSome}
use Rattle.std.specs.Result.{IsErrAnd}
use Rattle.std.proofs.lemmas.Bool.{false≢true}
use Rattle.std.proofs.lemmas.List.{append-nil, take_all}
use Rattle.std.proofs.Math.Seq.{take-append_seam}
use Rattle.std.specs.Io.KnownBytes.{Appends, Consumes, IsAtEnd}
use Rattle.runjob.specs.Run.{AppendsFront, KnownBytes, RunDoes, StopsReading, TakesBytes, TakesJob, WritesBytes}
use Rattle.runjob.specs.declared.failure.Failure.{Failure}
use Rattle.runjob.specs.declared.failure.Failure.TheVariants.{Memory, Write}
use Rattle.std.specs.declared.io.Error.{Error}
use Rattle.replies.specs.Replies.{answer_text, enough_bytes, replies_to}

pub Appends-more : (o p q : KnownBytes) (a b : List ℕ) → Appends o p a → Appends p q b → Appends o q (a ++ b)
Appends-more None p q a b h k = tt
Appends-more (Some xs) None q a b h k = absurd h
Appends-more (Some xs) (Some ys) None a b h k = absurd k
Appends-more (Some xs) (Some ys) (Some zs) a b h k = k ∙ ap (λ l. l ++ b) h ∙ append_assoc xs a b

pub Consumes-more : (o p q : KnownBytes) (a b : List ℕ) → Consumes o p a → Consumes p q b → Consumes o q (a ++ b)
Consumes-more None p q a b h k = tt
Consumes-more (Some xs) None q a b h k = absurd h
Consumes-more (Some xs) (Some ys) None a b h k = absurd k
Consumes-more (Some xs) (Some ys) (Some zs) a b h k = h ∙ ap (λ l. a ++ l) k ∙ sym (append_assoc a b zs)

pub Writing-stopped : {E : Type 0} (o p : KnownBytes) (bs : List ℕ) (r : Result (Unit {0}) E)
    → IsErr r → AppendsFront o p bs → WritesBytes o p bs r
Writing-stopped o p bs (Ok u) e h = absurd (false≢true e)
Writing-stopped o p bs (Err e) k h = h

-- where the reader has no more, all of its bytes were taken
pub first-end : (o p : KnownBytes) (job : List ℕ)
    → Consumes o p job → IsAtEnd p → length job ≤ enough_bytes → IfSome o (λ bytes. job ≡ take enough_bytes bytes)
first-end None p job h e l = tt
first-end (Some xs) None job h e l = absurd h
first-end (Some xs) (Some ys) job h e l =
    let all : xs ≡ job = h ∙ ap (λ l. job ++ l) e ∙ append-nil job in
    sym (ap (λ l. take enough_bytes l) all ∙ take_all enough_bytes job l)

-- where as many as may be taken were taken, they are the first of them
pub first-full : (o p : KnownBytes) (job : List ℕ)
    → Consumes o p job → length job ≡ enough_bytes → IfSome o (λ bytes. job ≡ take enough_bytes bytes)
first-full None p job h e = tt
first-full (Some xs) None job h e = absurd h
first-full (Some xs) (Some ys) job h e =
    sym (ap (λ l. take enough_bytes l) h ∙ ap (λ n. take n (job ++ ys)) (sym e) ∙ take-append_seam job ys)

-- the first n bytes are a job, where so many tell their replies
pub TakesJob-first : (o p : KnownBytes) (n : ℕ) (job : List ℕ)
    → n ≡ enough_bytes → ((bytes : List ℕ) → replies_to (take n bytes) ≡ replies_to bytes)
    → Consumes o p job → IfSome o (λ bytes. job ≡ take enough_bytes bytes) → TakesJob o p job
TakesJob-first None p n job e tells h first = (h, tt)
TakesJob-first (Some bytes) p n job e tells h first =
    (h, (first, ap replies_to (first ∙ ap (λ k. take k bytes) (sym e)) ∙ tells bytes))

-- a read that took nothing
pub Consumes-none : (o p q : KnownBytes) (bs xs : List ℕ) (n : ℕ)
    → n ≡ 0 → Consumes o p bs → Consumes p q (take n xs) → Consumes o q bs
Consumes-none None p q bs xs n e h k = tt
Consumes-none (Some ys) None q bs xs n e h k = absurd h
Consumes-none (Some ys) (Some zs) None bs xs n e h k = absurd k
Consumes-none (Some ys) (Some zs) (Some ws) bs xs n e h k =
    h ∙ ap (λ l. bs ++ l) (k ∙ ap (λ m. take m xs ++ ws) e)

-- reading stopped since there was no memory
pub StopsReading-memory : {A : Type 0} (P : A → Type 0) (o p : KnownBytes) (r : Result A Failure)
    → IsErrAnd r (λ f. f ≡ Memory) → TakesBytes o p → MatchResult r P (StopsReading o p)
StopsReading-memory P o p (Ok x) h k = absurd h
StopsReading-memory P o p (Err f) h k = rw h k

-- a job was read, and its answer was written as far as it was
pub Running-written : (r r' w w' : KnownBytes) (job bs : List ℕ) (x : Result (Unit {0}) Error)
    (y : Result (Unit {0}) Failure)
    → TakesJob r r' job → WritesBytes w w' bs x → bs ≡ answer_text job
    → MatchResult x (λ u. y ≡ Ok u) (λ e. IsErrAnd y (λ f. f ≡ Write e)) → RunDoes r r' w w' y
Running-written r r' w w' job bs (Ok u) y h a e k = rw k (job, h, rw (← e) a)
Running-written r r' w w' job bs (Err e) (Ok v) h a s k = absurd k
Running-written r r' w w' job bs (Err e) (Err f) h a s k = rw k (job, h, rw (← s) a)
