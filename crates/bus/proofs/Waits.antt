-- What waits leave as it was, and how a request ends that was waited out. Assumes nothing.
use Rattle.std.proofs.Common.{◌≡◌, ℕ, zero, suc, ◌+◌, ◌≤◌, Bool, true, false, cond, Some, None, Ok, Err, Result, sym}
use Rattle.std.proofs.Common.{refl, ap, ◌∙◌, subst, arith}
use Rattle.std.proofs.lemmas.Bool.{ltb-false}
use Rattle.bus.specs.Meaning.{Answers, IsSound, Meaning, done_word, is_refused, is_stalled, written_byte}
use Rattle.bus.specs.Request.{access_of, word_of}
use Rattle.bus.specs.Settle.{Settles, Waits, end_of}
use Rattle.bus.specs.declared.request.Action.{Action}
use Rattle.bus.specs.declared.request.Action.TheVariants as action
use Rattle.bus.specs.declared.request.Answer.{Answer}
use Rattle.bus.specs.declared.request.Answer.TheVariants.{Wait, BusError, Done}
use Rattle.bus.specs.declared.request.Request.{Request}
use Rattle.bus.specs.declared.settle.BusFault.{BusFault}

-- a meaning after n waits of a request
pub record Kept (m : Meaning) (q : Request) (n : ℕ) (m' : Meaning) : Type 0 where
  pub waits : m'.waits (access_of q) + n ≡ m.waits (access_of q)
  pub bytes : (x : ℕ) → m'.byte x ≡ m.byte x
  pub unreadable : (w : ℕ) → m'.unreadable w ≡ m.unreadable w
  pub unwritable : (w : ℕ) → m'.unwritable w ≡ m.unwritable w
  pub longest : m'.longest ≡ m.longest

-- the tests behind each answer
stalled_at_wait : (b c : Bool) (v : ℕ) → Wait ≡ cond b Wait (cond c BusError (Done v)) → b ≡ true
stalled_at_wait true c v e = refl
stalled_at_wait false true v e = cc
stalled_at_wait false false v e = cc

refused_at_error : (b c : Bool) (v : ℕ) → BusError ≡ cond b Wait (cond c BusError (Done v)) → (b ≡ false) × (c ≡ true)
refused_at_error true c v e = (cc, cc)
refused_at_error false true v e = (refl, refl)
refused_at_error false false v e = (cc, cc)

carried_at_done : (b c : Bool) (v w : ℕ) → Done w ≡ cond b Wait (cond c BusError (Done v))
    → (b ≡ false) × (c ≡ false) × (w ≡ v)
carried_at_done true c v w e = (cc, cc, cc)
carried_at_done false true v w e = (cc, cc, cc)
carried_at_done false false v w e = (refl, refl, cc)

one_wait : (m : Meaning) (q : Request) (m' : Meaning) → Answers m q Wait m' → Kept m q 1 m'
one_wait m q m' h =
    let t : is_stalled m q ≡ true = stalled_at_wait (is_stalled m q) (is_refused m q) (done_word m q) h.answered in
    record {
      waits = h.counted t;
      bytes = λ x. h.bytes x ∙ rw t;
      unreadable = h.unreadable;
      unwritable = h.unwritable;
      longest = h.longest;
    }

module _ (m m' : Meaning) where
  refused_by : (address : ℕ) (y : Action) (n : ℕ) → Kept m (record { address = address; action = y }) n m'
      → is_refused m' (record { address = address; action = y })
      ≡ is_refused m (record { address = address; action = y })
  refused_by address action.Read n h = h.unreadable _
  refused_by address (action.Write w d) n h = h.unwritable _

  carried_by : (address : ℕ) (y : Action) (n : ℕ) → Kept m (record { address = address; action = y }) n m'
      → done_word m' (record { address = address; action = y })
      ≡ done_word m (record { address = address; action = y })
  carried_by address action.Read n h =
      cc (
        h.bytes (word_of address),
        h.bytes (word_of address + 1),
        h.bytes (word_of address + 2),
        h.bytes (word_of address + 3),
      )
  carried_by address (action.Write w d) n h = refl

  written_by : (address : ℕ) (y : Action) (n : ℕ) → Kept m (record { address = address; action = y }) n m' → (x : ℕ)
      → written_byte m' (record { address = address; action = y }) x
      ≡ written_byte m (record { address = address; action = y }) x
  written_by address action.Read n h x = h.bytes x
  written_by address (action.Write w d) n h x = rw (h.bytes x)

  same_refused : (q : Request) (n : ℕ) → Kept m q n m' → is_refused m' q ≡ is_refused m q
  same_refused q = refused_by q.address q.action

  same_carried : (q : Request) (n : ℕ) → Kept m q n m' → done_word m' q ≡ done_word m q
  same_carried q = carried_by q.address q.action

  same_written : (q : Request) (n : ℕ) → Kept m q n m' → (x : ℕ) → written_byte m' q x ≡ written_byte m q x
  same_written q = written_by q.address q.action

ended : {m : Meaning} {q : Request} {n : ℕ} {m' : Meaning} → Kept m q n m' → is_stalled m' q ≡ false
    → n ≡ m.waits (access_of q)
ended h e = omega (arith, h.waits, ltb-false _ _ e)

module _ {S : Type 0} {means : S → Meaning} {steps : S → Request → Answer → S → Type 0}
    (tells : (s : S) (q : Request) (a : Answer) (t : S) → steps s q a t → Answers (means s) q a (means t)) where
  pub waited : (q : Request) (n : ℕ) (s t : S) → Waits steps q n s t → Kept (means s) q n (means t)
  waited q zero s t h =
      record {
        waits = rw h (omega arith);
        bytes = λ x. rw h;
        unreadable = λ w. rw h;
        unwritable = λ w. rw h;
        longest = rw h;
      }
  waited q (suc n) s t h =
      let before = waited q n s h.0 h.1 in
      let now = one_wait (means h.0) q (means t) (tells h.0 q Wait t h.2) in
      record {
        waits = omega (arith, before.waits, now.waits);
        bytes = λ x. now.bytes x ∙ before.bytes x;
        unreadable = λ w. now.unreadable w ∙ before.unreadable w;
        unwritable = λ w. now.unwritable w ∙ before.unwritable w;
        longest = now.longest ∙ before.longest;
      }

  -- a request never waits more often than W
  pub bounded : (q : Request) (n : ℕ) (s t : S) → IsSound (means s) → Waits steps q n s t → n ≤ (means s).longest
  bounded q n s t k h = omega (arith, (waited q n s t h).waits, k.waits (access_of q))

  module _ (q : Request) (n : ℕ) (s u t : S) (h : Waits steps q n s u) where
    in_fault : steps u q BusError t
        → Settles means steps s q (record { waits = n; outcome = Err (record { address = q.address }) }) t
    in_fault k =
        let w = waited q n s u h in
        let a = tells u q BusError t k in
        let e =
        refused_at_error (is_stalled (means u) q) (is_refused (means u) q) (done_word (means u) q) a.answered in
        let r : is_refused (means s) q ≡ true = sym (same_refused (means s) (means u) q n w) ∙ e.1 in
        record {
          asked = (u, BusError, h, k, refl);
          waits = ended w e.0;
          ends = rw r;
          bytes = λ x. a.bytes x ∙ rw (e.0, e.1, r) (w.bytes x);
          unreadable = λ x. a.unreadable x ∙ w.unreadable x;
          unwritable = λ x. a.unwritable x ∙ w.unwritable x;
          longest = a.longest ∙ w.longest;
        }

    in_done : (word : ℕ) → steps u q (Done word) t
        → Settles means steps s q (record { waits = n; outcome = Ok word }) t
    in_done word k =
        let w = waited q n s u h in
        let a = tells u q (Done word) t k in
        let e =
        carried_at_done (is_stalled (means u) q) (is_refused (means u) q) (done_word (means u) q) word a.answered
        in
        let r : is_refused (means s) q ≡ false = sym (same_refused (means s) (means u) q n w) ∙ e.1 in
        record {
          asked = (u, Done word, h, k, refl);
          waits = ended w e.0;
          ends = rw r (ap Ok (e.2 ∙ same_carried (means s) (means u) q n w));
          bytes = λ x. a.bytes x ∙ rw (e.0, e.1, r) (same_written (means s) (means u) q n w x);
          unreadable = λ x. a.unreadable x ∙ w.unreadable x;
          unwritable = λ x. a.unwritable x ∙ w.unwritable x;
          longest = a.longest ∙ w.longest;
        }

    -- a request ends with the first answer that is no wait
    pub ends : (a : Answer) (o : Result ℕ BusFault) → steps u q a t → Some o ≡ end_of q a
        → Settles means steps s q (record { waits = n; outcome = o }) t
    ends Wait o k e = let z : ◌≡◌ {A = ℕ} 0 1 = cc in absurd (omega arith)
    ends BusError o k e = let i : Err (record { address = q.address }) ≡ o = cc in
        subst (λ x. Settles means steps s q (record { waits = n; outcome = x }) t) i (in_fault k)
    ends (Done word) o k e = let i : Ok word ≡ o = cc in
        subst (λ x. Settles means steps s q (record { waits = n; outcome = x }) t) i (in_done word k)

  -- a request that has not ended was answered by wait
  pub waits_on : (q : Request) (n : ℕ) (s u t : S) (a : Answer) → Waits steps q n s u → steps u q a t
      → None ≡ end_of q a → Waits steps q (suc n) s t
  waits_on q n s u t Wait h k e = (u, h, k)
  waits_on q n s u t BusError h k e = let z : ◌≡◌ {A = ℕ} 0 1 = cc in absurd (omega arith)
  waits_on q n s u t (Done word) h k e = let z : ◌≡◌ {A = ℕ} 0 1 = cc in absurd (omega arith)
