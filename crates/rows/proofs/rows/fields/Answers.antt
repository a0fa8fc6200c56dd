-- The table of the code is the one that the listing lays out: antt computes both.
use Rattle.std.proofs.Common.{ℕ, ap, ◌∙◌, arith, slice_index_or}
use Rattle.std.specs.Option.{unwrap_or}
use Rattle.rows.specs.Rows.{empty_fields, rows}
use Rattle.rows.proofs.rows.fields.Goals as goal

pub returns : goal.returns
unfolding rows
returns c =
    c.unwrap_or.ensures
    ∙ ap (λ o. unwrap_or o empty_fields) c.copied.ensures
    ∙ c.get.ensures.lookup.4 (omega arith) empty_fields
    ∙ ap (λ (n : ℕ). slice_index_or rows n empty_fields) c.from.ensures
