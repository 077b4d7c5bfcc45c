-- What the walk has made, and how a step of it ends.
use Rattle.std.specs.Prelude.{ℕ, List}
use Rattle.diagnostics.specs.declared.Refusal.{Refusal}
use Rattle.diagnostics.specs.declared.Error.{Error}
use Rattle.lowering.specs.declared.State.{State}

-- the words of the three buffers, whole, and the state: counts, registers and frame size
pub record Made : Type 0 where
  pub code : List ℕ
  pub constants : List ℕ
  pub marks : List ℕ
  pub state : State

abbrev pub made : List ℕ → List ℕ → List ℕ → State → Made
made code constants marks state = record { code = code; constants = constants; marks = marks; state = state }

-- a step ends with an answer, or stops with a refusal, "the first met"; either way it leaves what was made
pub data Outcome (A : Type 0) : Type 0 where
  ends : A → Made → Outcome A
  stops : Error → Made → Outcome A

abbrev pub Walk : Type 0 → Type 0
Walk A = Made → Outcome A

unfoldable pub bind : {A B : Type 0} → Outcome A → (A → Walk B) → Outcome B
bind (ends a m) k = k a m
bind (stops e m) k = stops e m

infixl 10 ◌>>=◌ ◌>>◌
abbrev pub ◌>>=◌ : {A B : Type 0} → Walk A → (A → Walk B) → Walk B
◌>>=◌ w k m = bind (w m) k

abbrev pub ◌>>◌ : {A B : Type 0} → Walk A → Walk B → Walk B
◌>>◌ w v m = bind (w m) (λ a. v)

abbrev pub ret : {A : Type 0} → A → Walk A
ret a m = ends a m

-- a refusal that names a place and a span; "place and span are 0 where none is named"
abbrev pub error : Refusal → ℕ → ℕ → ℕ → Error
error refusal place start end = record { refusal = refusal; place = place; start = start; end = end }

abbrev pub unnamed : Refusal → Error
unnamed refusal = error refusal 0 0 0

-- what was made, whether it ended or stopped
unfoldable pub made_of : {A : Type 0} → Outcome A → Made
made_of (ends a m) = m
made_of (stops e m) = m
