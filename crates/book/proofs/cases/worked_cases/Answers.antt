-- The worked cases, computed.
use Rattle.std.proofs.Common.{refl}
use Rattle.book.proofs.cases.worked_cases.Goals as goal

pub returns-clause-cases : goal.returns-clause-cases
returns-clause-cases c =
    record {
      add_code = refl;
      add_bar = refl;
      least_quotient = refl;
      least_remainder = refl;
      odd_quotient = refl;
      odd_remainder = refl;
      zero_quotient = refl;
      zero_remainder = refl;
      link_first = refl;
      interrupt_epc = refl;
      interrupt_sr = refl;
      fetch_epc = refl;
      fetch_code = refl;
      load_code = refl;
      load_bar = refl;
    }
