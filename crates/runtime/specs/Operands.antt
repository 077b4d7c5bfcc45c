-- operands.rs: the number of a register, as an instruction has it.
use Rattle.std.specs.Prelude.{ℕ}
use Rattle.environment.specs.declared.Register.{Register}

unfoldable pub reg_of : Register → ℕ
reg_of (Register.Temp r) = r
reg_of (Register.Local r) = r
