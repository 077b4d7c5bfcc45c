-- Records as a search sees them: one that the search does not give for its own words is hidden.
use Rattle.std.specs.Prelude.{ℕ, zero, suc, List, Bool, cond, eqb}
use Rattle.words.specs.Records.{record_at, put_record}

-- the buffer with each of the first n records that is not seen made `blank`
unfoldable pub hide : (w : ℕ) → (ℕ → Bool) → List ℕ → ℕ → List ℕ → List ℕ
hide w sees blank zero ws = ws
hide w sees blank (suc n) ws = cond (sees n) (hide w sees blank n ws) (put_record w (hide w sees blank n ws) n blank)

-- the same where a record is seen if the search `find` gives its place for its words
abbrev pub findable : (w : ℕ) → List ℕ → (List ℕ → ℕ) → ℕ → List ℕ → List ℕ
findable w blank find n ws = hide w (λ q. eqb (find (record_at w ws q)) q) blank n ws
