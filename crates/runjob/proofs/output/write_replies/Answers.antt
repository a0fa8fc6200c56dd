use Rattle.std.proofs.Common.{◌++◌, ap, sym, ◌∙◌, append_assoc}
use Rattle.replies.specs.Replies.{text_of_replies, replies_to_come}
use Rattle.runjob.proofs.Known.{Appends-more, Writing-stopped}
use Rattle.runjob.proofs.output.write_replies.Goals as goal

pub loop-reply-preserved : goal.loop-reply-preserved
loop-reply-preserved g c =
    let front = c.loop-reply.invariant.0 in
    let more = text_of_replies (replies_to_come c.next.new.self) in
    let one = c.as_slice.ensures.value ∙ c.reply_text.ensures.bytes in (
      front ++ c.as_slice.result.now,
      c.loop-reply.invariant.1
          ∙ ap (λ rs. front ++ text_of_replies rs) c.in-Some.ensures.steps
          ∙ ap (λ xs. front ++ (xs ++ more)) (sym one)
          ∙ sym (append_assoc front c.as_slice.result.now more),
      Appends-more _ _ _ front c.as_slice.result.now c.loop-reply.invariant.2 c.in_ok-write_whole.ensures,
    )

pub returns-in_err-write_whole : goal.returns-in_err-write_whole
returns-in_err-write_whole g c =
    let front = c.loop-reply.invariant.0 in
    let more = text_of_replies (replies_to_come c.next.new.self) in
    let part = c.in_err-write_whole.ensures in
    let one = c.as_slice.ensures.value ∙ c.reply_text.ensures.bytes in
    Writing-stopped _ _ _ c.from_residual.result c.from_residual.ensures.0 (
      front ++ part.0,
      part.1 ++ more,
      c.loop-reply.invariant.1
          ∙ ap (λ rs. front ++ text_of_replies rs) c.in-Some.ensures.steps
          ∙ ap (λ xs. front ++ (xs ++ more)) (sym one ∙ part.2)
          ∙ ap (λ xs. front ++ xs) (append_assoc part.0 part.1 more)
          ∙ sym (append_assoc front part.0 (part.1 ++ more)),
      Appends-more _ _ _ front part.0 c.loop-reply.invariant.2 part.3,
    )
