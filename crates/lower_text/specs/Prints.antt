-- What is printed of a tree that stands in byte slices: the listing of its lowering, over the program's buffers. And what it is to print a listing.
use Rattle.std.specs.Prelude.{ℕ, ◌*◌, ◌≤◌, ◌≡◌, List, length, take, drop, replicate}
use Rattle.words.specs.Words.{word_bytes}
use Rattle.syntax.specs.Ast.{node_width}
use Rattle.runtime.specs.Instruction.{instruction_width}
use Rattle.runtime.specs.Value.{constant_width}
use Rattle.lowering.specs.Result.{lower}
use Rattle.listing.specs.declared.text.Header.{Header}
use Rattle.listing.specs.Text.{list_width, name_width}
use Rattle.listing.specs.Output.{instructions_bound, constants_bound, marks_bound, longest_listing, listing}

-- the bytes of the tree that a header tells of: its nodes, its list and its parameters' names
abbrev pub nodes_bytes : Header → ℕ
nodes_bytes h = word_bytes * node_width * h.nodes

abbrev pub list_bytes : Header → ℕ
list_bytes h = word_bytes * list_width * h.list

abbrev pub names_bytes : Header → ℕ
names_bytes h = word_bytes * name_width * h.names

-- "2,048 instructions, 512 constants, 512 marks", all zeros at first
unfoldable pub tree_listing : List ℕ → ℕ → ℕ → List ℕ → List ℕ → List ℕ
tree_listing nodes root mode list names =
    listing (lower nodes root mode list names
    (replicate (instruction_width * instructions_bound) 0) (replicate (constant_width * constants_bound) 0) (replicate marks_bound 0))

-- The bytes of a listing are printed into a buffer that has the bytes `out` before and `out'` after, and `size` comes back.
pub record Prints (bytes out out' : List ℕ) (size : ℕ) : Type 0 where
  -- how many bytes the listing has, whether the buffer holds them or not
  pub count : size ≡ length bytes
  -- the buffer begins with the listing, cut where the buffer ends
  pub begins : take size out' ≡ take (length out) bytes
  -- all of it is there, if the buffer holds the longest listing
  pub whole : longest_listing ≤ length out → take size out' ≡ bytes
  -- what stands after it is as it was
  pub behind : drop size out' ≡ drop size out
