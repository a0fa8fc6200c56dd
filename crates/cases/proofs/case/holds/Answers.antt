use Rattle.std.proofs.Common.{◌≡◌, true, false, [], ◌++◌, length, take, drop, eqb, sym, ap, ◌∙◌, subst}
use Rattle.text.specs.Writing.{reply_text}
use Rattle.replies.specs.Replies.{text_of_replies, replies_to_come}
use Rattle.cases.proofs.Compared.{begun, differs, ended}
use Rattle.cases.proofs.case.holds.Goals as goal
use lib.Pointwise.{pointwise}

pub loop-reply-init : goal.loop-reply-init
loop-reply-init c =
    let begins = c.into_iter-reply-iterator.ensures.into_iter_gives in
    let all : replies_to_come c.into_iter-reply-iterator.result ≡ _ =
    ap replies_to_come begins ∙ c.new-reply-items.ensures in
    (λ e. ap text_of_replies (sym all) ∙ e, λ e. ap text_of_replies all ∙ e)

pub loop-reply-preserved : goal.loop-reply-preserved
loop-reply-preserved c =
    let so_far = c.loop-reply.invariant in
    let after = text_of_replies (replies_to_come c.next.new.self) in
    let here : text_of_replies (replies_to_come c.loop-reply.reply-iterator) ≡ reply_text c.in-Some.reply ++ after
    = ap text_of_replies c.in-Some.ensures.steps in
    let text : c.as_slice.result.now ≡ reply_text c.in-Some.reply = c.as_slice.ensures.value
    ∙ c.reply_text.ensures.bytes in
    let cases = c.in-Some-strip_prefix.ensures.cases in
    let same = subst (λ t. pointwise eqb (take (length t) c.loop-reply.rest.now) t ≡ true) text cases.0 in
    let left = cases.1 ∙ ap (λ t. drop (length t) c.loop-reply.rest.now) text in
    let both =
    begun (reply_text c.in-Some.reply) after c.loop-reply.rest.now c.in-Some-strip_prefix.after.now same left in
    (λ e. so_far.0 (here ∙ both.0 e), λ e. both.1 (sym here ∙ so_far.1 e))

pub returns-in-None-strip_prefix : goal.returns-in-None-strip_prefix
returns-in-None-strip_prefix c =
    let so_far = c.loop-reply.invariant in
    let after = text_of_replies (replies_to_come c.next.new.self) in
    let here : text_of_replies (replies_to_come c.loop-reply.reply-iterator) ≡ reply_text c.in-Some.reply ++ after
    = ap text_of_replies c.in-Some.ensures.steps in
    let text : c.as_slice.result.now ≡ reply_text c.in-Some.reply = c.as_slice.ensures.value
    ∙ c.reply_text.ensures.bytes in
    let cases = c.in-None-strip_prefix.ensures.cases in
    let other = subst (λ t. pointwise eqb (take (length t) c.loop-reply.rest.now) t ≡ false) text cases in
    let differ = differs (reply_text c.in-Some.reply) after c.loop-reply.rest.now other in
    (λ e. absurd (cc), λ e. absurd (differ (sym here ∙ so_far.1 e)))

pub returns : goal.returns
returns c =
    let so_far = c.loop-reply.invariant in
    let end : text_of_replies (replies_to_come c.loop-reply.reply-iterator) ≡ [] =
    ap text_of_replies c.in-None.ensures.steps.0 in
    let none = ended c.loop-reply.rest.now c.is_empty.result c.is_empty.ensures in
    (λ e. so_far.0 (end ∙ none.0 e), λ e. none.1 (sym end ∙ so_far.1 e))
