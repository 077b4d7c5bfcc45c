-- The pool's index: for a constant's words, where a search looks. A search that the index misleads passes a constant over, so the pool is said as its searches
-- see it: a constant that is not found for its own words is hidden. Nothing is asked of an index.
use Rattle.std.specs.Prelude.{ℕ, zero, suc, ◌+◌, ◌*◌, ◌-◌, ◌/◌, ◌%◌, cond, ◌&&◌, List, [], ◌∷◌, leb, ltb, eqb, get_or, set, Result, Ok, Err}
use Rattle.words.specs.Words.{word_end, words}
use Rattle.diagnostics.specs.declared.Refusal.{Refusal}
use Rattle.words.specs.declared.Appended.{Appended}
use Rattle.words.specs.Records.{record_at, is_at, position_from}
use Rattle.pool_index.specs.Hidden.{findable}
use Rattle.runtime.specs.Value.{constant_width}

-- the index is `slots` places of the first constant of a chain, by the slot of the constant's words, and `links` of the next one, by the constant's place; each is
-- a place and 1, or 0 at the end
abbrev pub slots : ℕ
slots = 1024

abbrev pub links : ℕ
links = 2048

unfoldable pub slot_of : List ℕ → ℕ
slot_of r = (get_or r 1 0 + get_or r 2 0) % word_end * 2654435761 / 4194304 % slots

-- the largest word, where there is no place to give: nothing was found, or there was no room
abbrev pub full : ℕ
full = 4294967295

-- an append's answer, read from one number: the place, or `full`; a record that was found, at a place below the count, is not counted again
unfoldable pub appended : ℕ → ℕ → Refusal → Appended
appended count place refusal =
    cond (eqb place full)
    (record { count = count; place = Err refusal })
    (record { count = cond (eqb place count) (count + 1) count; place = Ok place })

-- the place of r in a chain from `next` on, or `full`: each place is below the one before it, and a constant of another slot ends the chain
unfoldable pub chained : List ℕ → List ℕ → List ℕ → ℕ → ℕ → ℕ → ℕ
chained ws index r zero bound next = full
chained ws index r (suc n) bound next =
    cond (ltb 0 next && leb next bound)
    (cond (is_at ws r (next - 1)) (next - 1)
    (cond (eqb (slot_of (record_at constant_width ws (next - 1))) (slot_of r))
    (chained ws index r n (next - 1) (get_or index (slots + (next - 1)) 0))
    full))
    full

-- the smaller of a count and `links`: so many constants are in chains
abbrev pub linked : ℕ → ℕ
linked count = cond (ltb count links) count links

-- the place of r among the first `count` constants, or one that is not below `count`: by its chain, and past those in chains one by one
unfoldable pub find : List ℕ → List ℕ → ℕ → List ℕ → ℕ
find ws index count r =
    let near : ℕ = chained ws index r (linked count) (linked count) (get_or index (slot_of r) 0) in
    cond (ltb near count) near (position_from ws r (count - links) links)

-- the index once a constant of slot h is at place n: it is the first of its chain
unfoldable pub indexed : List ℕ → ℕ → ℕ → List ℕ
indexed index n h = cond (ltb n links) (set (set index (slots + n) (get_or index h 0)) h (n + 1)) index

-- the index once an append has answered for a constant of slot h: it is at its place, or there was no room and nothing changes
abbrev pub indexed_by : List ℕ → Result ℕ Refusal → ℕ → List ℕ
indexed_by index (Ok n) h = indexed index n h
indexed_by index (Err refusal) h = index

-- what stands for a hidden constant: its kind is no word
abbrev pub blank : List ℕ
blank = word_end ∷ 0 ∷ 0 ∷ []

-- the words of the pool, by its bytes, as a search among the first `count` constants sees them
unfoldable pub pool_of : List ℕ → List ℕ → ℕ → List ℕ
pool_of constants index count = findable constant_width blank (find (words constants) index count) count (words constants)
