use Rattle.std.proofs.Common.{◌+◌, ◌++◌, length, drop, slice_index_or, ap, sym, ◌∙◌, arith}
use Rattle.std.proofs.lemmas.List.{at_drop_more, length-append}
use Rattle.text.specs.Writing.{code_field, digits}
use Rattle.text.proofs.Separated.{behind, separated-behind, digits-length}
use Rattle.text.proofs.writing.line_of.Goals as goal

pub loop-field-init : goal.loop-field-init
loop-field-init c =
    ap (λ xs. xs ++ behind c.args.others.now)
    (c.push_field.ensures ∙ ap (λ xs. xs ++ digits (code_field c.args.code).0 c.args.code) c.new-text.ensures)
    ∙ separated-behind (code_field c.args.code) c.args.others.now

pub push_field-requires-in-loop-field-clause-room : goal.push_field-requires-in-loop-field-clause-room
push_field-requires-in-loop-field-clause-room c =
    let f = slice_index_or c.args.others.now c.loop-field.field-index (0, 0) in
    let left = at_drop_more behind c.args.others.now c.loop-field.field-index (0, 0) c.loop-field-test.true in
    omega (
      arith,
      c.requires.room,
      c.push.ensures.len,
      ap length (sym c.loop-field.invariant),
      length-append c.loop-field.text.items (behind (drop c.loop-field.field-index c.args.others.now)),
      ap length left,
      length-append (digits f.0 f.1) (behind (drop (c.loop-field.field-index + 1) c.args.others.now)),
      digits-length f.0 f.1,
    )
