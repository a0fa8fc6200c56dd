-- What a run does to its reader and its writer, where their bytes are known. Assumes nothing.
use Rattle.std.specs.Prelude.{◌≡◌, ℕ, ◌<◌, ◌≤◌, List, ◌++◌, length, take, Ok, Err, Option, Result, IfSome}
use Rattle.std.specs.Io.KnownBytes.{Appends, Consumes, Keeps}
use Rattle.replies.specs.Replies.{answer_text, enough_bytes, replies_to}
use Rattle.runjob.specs.declared.failure.Failure.{Failure}
use Rattle.runjob.specs.declared.failure.Failure.TheVariants.{Memory, Read, Write}

-- the bytes that a reader has or a writer holds, where they are known
abbrev pub KnownBytes : Type 0
KnownBytes = Option (List ℕ)

-- a job was taken: the first bytes of a reader and no more, and their replies are those to all of its bytes
abbrev pub TakesJob : KnownBytes → KnownBytes → List ℕ → Type 0
TakesJob old new job = Consumes old new job
    × IfSome old (λ bytes. (job ≡ take enough_bytes bytes) × (replies_to job ≡ replies_to bytes))

-- no more than a job was taken
abbrev pub TakesSome : KnownBytes → KnownBytes → Type 0
TakesSome old new = (taken : List ℕ) × Consumes old new taken × (length taken ≤ enough_bytes)

-- no more than a job was taken, and not nothing: memory is wanted for bytes that were read
abbrev pub TakesBytes : KnownBytes → KnownBytes → Type 0
TakesBytes old new = (taken : List ℕ) × Consumes old new taken × (0 < length taken) × (length taken ≤ enough_bytes)

-- a front of some bytes was appended
abbrev pub AppendsFront : KnownBytes → KnownBytes → List ℕ → Type 0
AppendsFront old new bytes = (front rest : List ℕ) × (bytes ≡ front ++ rest) × Appends old new front

-- what a failure to read leaves; writing fails elsewhere
abbrev pub StopsReading : KnownBytes → KnownBytes → Failure → Type 0
StopsReading old new Memory = TakesBytes old new
StopsReading old new (Read e) = TakesSome old new
StopsReading old new (Write e) = ⊥

-- bytes were written, or a front of them where that failed
abbrev pub WritesBytes : {E : Type 0} → KnownBytes → KnownBytes → List ℕ → Result (Unit {0}) E → Type 0
WritesBytes old new bytes (Ok u) = Appends old new bytes
WritesBytes old new bytes (Err e) = AppendsFront old new bytes

-- a run, where the reader had r and has r', and the writer held w and holds w'
module _ (r r' w w' : KnownBytes) where
  -- all of the answer to the job was written, or a front of it, or nothing of it since the job could not be read
  abbrev pub RunDoes : Result (Unit {0}) Failure → Type 0
  RunDoes (Ok u) = (job : List ℕ) × TakesJob r r' job × Appends w w' (answer_text job)
  RunDoes (Err (Write e)) = (job : List ℕ) × TakesJob r r' job × AppendsFront w w' (answer_text job)
  RunDoes (Err (Read e)) = TakesSome r r' × Keeps w w'
  RunDoes (Err Memory) = TakesBytes r r' × Keeps w w'
