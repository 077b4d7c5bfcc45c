-- environment.rs: locals and temporaries, the parameters' registers, and the lookup of a name.
use Rattle.std.specs.Prelude.{ℕ, zero, suc, List, cond, eqb, get_or, Result, Ok, Err}
use Rattle.diagnostics.specs.declared.Refusal.{Refusal}
use Rattle.environment.specs.declared.Register.{Register}
use Rattle.environment.specs.declared.RegisterSet.{RegisterSet}
use Rattle.environment.specs.declared.Taken.{Taken}
use Rattle.environment.specs.Registers.{all_free, taken, given_back}

-- a register's number read as a temporary or a local
unfoldable pub found : (ℕ → Register) → Result ℕ Refusal → Result Register Refusal
found kind (Ok r) = Ok (kind r)
found kind (Err refusal) = Err refusal

-- `allocate_temp`, `allocate_local`
unfoldable pub allocated : (ℕ → Register) → RegisterSet → Taken Register
allocated kind s = record { set = (taken s).set; register = found kind (taken s).register }

-- `free_temp`: a temporary is given back, a local is not
unfoldable pub freed : RegisterSet → Register → RegisterSet
freed s (Register.Temp r) = given_back s r
freed s (Register.Local r) = s

-- "parameters take registers 0 upward by `allocate_local`"
unfoldable pub parameters : ℕ → RegisterSet
parameters zero = all_free
parameters (suc n) = (allocated Register.Local (parameters n)).set

-- "The last parameter of a name wins"; "9: Is the name declared?"
unfoldable pub lookup : List ℕ → ℕ → ℕ → Result Register Refusal
lookup names zero name = Err Refusal.Undeclared
lookup names (suc n) name = cond (eqb (get_or names n 0) name) (Ok (Register.Local n)) (lookup names n name)
