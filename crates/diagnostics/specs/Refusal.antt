-- "Questions, and the number of each no".
use Rattle.std.specs.Prelude.{ℕ}
use Rattle.diagnostics.specs.declared.Refusal.{Refusal}

abbrev pub refusal_number : Refusal → ℕ
-- Are there 1 to 4,096 whole nodes, at most 8,192 list words, and are list and names whole words?
refusal_number Refusal.Size = 1
-- Is the mode 0 to 2, and the root one of the nodes?
refusal_number Refusal.Root = 2
-- Is the kind 0 to 14?
refusal_number Refusal.Kind = 3
-- Are the boolean and operator words in their ranges, unused words 0?
refusal_number Refusal.Unused = 4
-- Is a number neither NaN nor minus zero?
refusal_number Refusal.Number = 5
-- Is its part of the list inside the list, arguments at most 255?
refusal_number Refusal.List = 6
-- Is every node it names lower than itself?
refusal_number Refusal.Order = 7
-- Are there at most 256 parameters?
refusal_number Refusal.Parameters = 8
-- Is the name declared?
refusal_number Refusal.Undeclared = 9
-- Is a register free?
refusal_number Refusal.Registers = 10
-- Does the if have an else?
refusal_number Refusal.Else = 11
-- Is a key without value a name?
refusal_number Refusal.Key = 12
-- Does the code buffer have place for the next instruction, with fewer than 1,048,576 made?
refusal_number Refusal.Code = 13
-- The constant buffer for a new constant?
refusal_number Refusal.Constants = 14
-- Is any instruction there when an argument is marked?
refusal_number Refusal.Unmarked = 15
-- Is there a word for the mark?
refusal_number Refusal.Marks = 16
-- Has it a destination that `patch_arguments` lists?
refusal_number Refusal.Destination = 17
-- Is the sum at most 255?
refusal_number Refusal.Sum = 18
-- Is the index below the count, the count within the buffer, the kind 41 to 53?
refusal_number Refusal.Jump = 19
