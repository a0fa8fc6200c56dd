use Rattle.std.proofs.Common.{◌-◌, ◌++◌, length, take, drop, ap, sym, ◌∙◌, append_assoc, arith}
use Rattle.std.proofs.lemmas.List.{length-drop, take-append-drop, take_all}
use Rattle.runjob.proofs.Known.{Appends-more}
use Rattle.runjob.proofs.output.write_whole.Goals as goal

pub loop-rest-preserved : goal.loop-rest-preserved
loop-rest-preserved g c =
    let rest = c.loop-rest.rest.now in
    let n = c.in_ok-count.count in
    let front = c.loop-rest.invariant.0 in
    let left = take_all (length rest - n) (drop n rest) (omega (arith, length-drop n rest)) in (
      front ++ take n rest,
      c.loop-rest.invariant.1
          ∙ ap (λ xs. front ++ xs) (sym (take-append-drop n rest))
          ∙ sym (append_assoc front (take n rest) (drop n rest))
          ∙ ap (λ xs. (front ++ take n rest) ++ xs) (sym left),
      Appends-more _ _ _ front (take n rest) c.loop-rest.invariant.2 c.in_ok-count.ensures.bytes,
    )
