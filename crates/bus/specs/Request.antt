-- What a request is. Assumes nothing.
use Rattle.std.specs.Prelude.{ℕ, ◌-◌, ◌%◌, Bool, ◌&&◌, ◌==◌}
use Rattle.bus.specs.declared.request.Access.{Access}
use Rattle.bus.specs.declared.request.Action.{Action}
use Rattle.bus.specs.declared.request.Action.TheVariants as action
use Rattle.bus.specs.declared.request.Kind.{Kind}
use Rattle.bus.specs.declared.request.Kind.TheVariants as kind
use Rattle.bus.specs.declared.request.Request.{Request}
use Rattle.bus.specs.declared.request.Width.{Width}
use Rattle.bus.specs.declared.request.Width.TheVariants.{Word, Half, Byte}

-- the requests that ask for a word, and that ask to write
abbrev pub read_of : ℕ → Request
read_of address = record { address = address; action = action.Read }

abbrev pub write_of : Width → ℕ → ℕ → Request
write_of w address d = record { address = address; action = action.Write w d }

-- the kind of an action: read word, write word, write half or write byte
abbrev pub action_kind : Action → Kind
action_kind action.Read = kind.Read
action_kind (action.Write w d) = kind.Write w

-- a request's kind and address; two requests are the same when these agree
abbrev pub access_of : Request → Access
access_of q = record { address = q.address; kind = action_kind q.action }

-- kinds are compared by their numbers
abbrev pub kind_number : Kind → ℕ
kind_number kind.Read = 0
kind_number (kind.Write Word) = 1
kind_number (kind.Write Half) = 2
kind_number (kind.Write Byte) = 3

abbrev pub same_access : Access → Access → Bool
same_access x y = x.address == y.address && kind_number x.kind == kind_number y.kind

-- the same action at another address
abbrev pub at_address : ℕ → Request → Request
at_address address q = record { address = address; action = q.action }

-- how many bytes a write changes
abbrev pub byte_count : Width → ℕ
byte_count Word = 4
byte_count Half = 2
byte_count Byte = 1

-- the word that an address lies in is named by the address with its two low bits cleared
abbrev pub word_of : ℕ → ℕ
word_of address = address - address % 4

-- the lowest address that a write changes: the address with as many low bits cleared as the width ignores
abbrev pub first_address : Width → ℕ → ℕ
first_address w address = address - address % byte_count w
