-- What the program says where it fails. Assumes nothing.
use Rattle.std.specs.Prelude.{ℕ, List, codes, Some, None}
use Rattle.anyhow.specs.Error.{IsContextOn, IsMadeOf}
use Rattle.anyhow.specs.declared.error.Error.{Error}
use Rattle.runjob.specs.declared.failure.Failure.{Failure}
use Rattle.runjob.specs.declared.failure.Failure.TheVariants.{Memory, Read, Write}

-- the text of a failure
abbrev pub text_of : Failure → List ℕ
text_of Memory = codes "out of memory"
text_of (Read e) = codes "cannot read the job"
text_of (Write e) = codes "cannot write the replies"

-- the failure's text alone, or, where the system refused, over one cause, whose words are the system's to choose
abbrev pub Tells : Failure → Error → Type 0
Tells Memory error = IsMadeOf (Some (text_of Memory)) error
Tells (Read e) error = IsContextOn (IsMadeOf None) (Some (text_of (Read e))) error
Tells (Write e) error = IsContextOn (IsMadeOf None) (Some (text_of (Write e))) error
