-- Split: two memories side by side, separated at a mark that is rounded down to a multiple of 4. Assumes nothing.
use Rattle.std.specs.Prelude.{◌≡◌, ℕ, max, cond, MatchBool, nat_lt}
use Rattle.bus.specs.Meaning.{Meaning}
use Rattle.bus.specs.Request.{word_of}
use Rattle.bus.specs.declared.request.Answer.{Answer}
use Rattle.bus.specs.declared.request.Request.{Request}
use Rattle.layers.specs.declared.split.Split.{Split}

-- below the mark an address belongs to the first memory, else to the second; W is the larger one
abbrev pub split : ℕ → Meaning → Meaning → Meaning
split mark one two =
    record {
      byte = λ x. cond (nat_lt x (word_of mark)) (one.byte x) (two.byte x);
      unreadable = λ w. cond (nat_lt w (word_of mark)) (one.unreadable w) (two.unreadable w);
      unwritable = λ w. cond (nat_lt w (word_of mark)) (one.unwritable w) (two.unwritable w);
      waits = λ x. cond (nat_lt x.address (word_of mark)) (one.waits x) (two.waits x);
      longest = max one.longest two.longest;
    }

abbrev pub split_means : {A B : Type 0} → (A → Meaning) → (B → Meaning) → Split A B → Meaning
split_means one two s = split s.mark (one s.first) (two s.second)

-- how a split goes on: the memory that has the address is asked, and the other stays as it is
abbrev pub SplitSteps : {A B : Type 0} → (A → Request → Answer → A → Type 0) → (B → Request → Answer → B → Type 0)
    → Split A B → Request → Answer → Split A B → Type 0
SplitSteps one two s q a t =
    (t.mark ≡ s.mark)
    × MatchBool (nat_lt q.address (word_of s.mark))
    (one s.first q a t.first × (t.second ≡ s.second))
    (two s.second q a t.second × (t.first ≡ s.first))
