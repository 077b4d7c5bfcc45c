-- `runtime::value::is_nan` meets its contract: the definition of IEEE 754 as one comparison. Assumes nothing.
use mathlib.Core.Path.{sym}
use lib.Ieee.{binary64}
use lib.Ieee.Bits.{nan_bits_above}
use Rattle.runtime.proofs.value.is_nan.Goals as goal

pub returns : goal.returns
returns c = sym (nan_bits_above binary64 _)
