-- How the pile that jobs run on goes on. Assumes nothing.
use Rattle.std.specs.Prelude.{◌-◌, cond, ◌&&◌}
use Rattle.bus.specs.Meaning.{Meaning, byte_after, is_stalled}
use Rattle.bus.specs.Request.{access_of, same_access}
use Rattle.bus.specs.declared.request.Request.{Request}

-- what it means after a request: a wait takes one from the waits of its own request, and all others are the
-- longest
abbrev pub meaning_after : Meaning → Request → Meaning
meaning_after m q =
    record {
      byte = byte_after m q;
      unreadable = m.unreadable;
      unwritable = m.unwritable;
      waits = λ x. cond (is_stalled m q && same_access (access_of q) x) (m.waits (access_of q) - 1) m.longest;
      longest = m.longest;
    }
