-- The worked page of document 01, its starred cases ("* with the page above: to be proved"), more whose answers are kaori's own (`answer` of the oracle),
-- for calls and maps, which the running law leaves out, for divide and modulo, for modes 1 and 2 and for registers held and given back, and two that are
-- refused before the walk: one table. In each case the buffers have room for eight instructions, four constants and two marks, all words 9 at entry, so that
-- the table says too what is left past the counts. Parameters x, y are symbols 7 and 8, z is 9, p is 5.
use Rattle.std.specs.Prelude.{ℕ, ◌-◌, List, [], ◌∷◌, ◌++◌, length, replicate}
use Rattle.words.specs.Words.{bytes_of}
use Rattle.lowering.specs.Result.{Result, Lowered, result, lower}

-- a tree by its nodes, list and names, with mode and root, and what lowering it gives
pub record Case : Type 0 where
  pub nodes : List ℕ
  pub list : List ℕ
  pub names : List ℕ
  pub mode : ℕ
  pub root : ℕ
  pub gives : Result
  pub code : List ℕ
  pub constants : List ℕ
  pub marks : List ℕ

-- n words: those of a list, then 9s
unfoldable pub filled : ℕ → List ℕ → List ℕ
filled n ws = ws ++ replicate (n - length ws) 9

-- what lowering gives in a case
unfoldable pub lowered_case : Case → Lowered
lowered_case c = lower (bytes_of c.nodes) c.root c.mode (bytes_of c.list) (bytes_of c.names) (filled 32 []) (filled 12 []) (filled 2 [])

-- and what the table says
unfoldable pub wanted : Case → Lowered
wanted c = record { result = c.gives; code = filled 32 c.code; constants = filled 12 c.constants; marks = filled 2 c.marks }

-- the table
unfoldable pub cases : List Case
cases =
    -- `if flow < 3 1 else 2`, flow = symbol 7
    record {
      nodes =
          4 ∷ 7 ∷ 0 ∷ 0 ∷ 0 ∷ 0
          ∷ 0 ∷ 0 ∷ 1074266112 ∷ 0 ∷ 0 ∷ 0
          ∷ 5 ∷ 9 ∷ 0 ∷ 1 ∷ 0 ∷ 0
          ∷ 0 ∷ 0 ∷ 1072693248 ∷ 0 ∷ 0 ∷ 0
          ∷ 0 ∷ 0 ∷ 1073741824 ∷ 0 ∷ 0 ∷ 0
          ∷ 10 ∷ 2 ∷ 3 ∷ 4 ∷ 0 ∷ 0 ∷ [];
      list = [];
      names = 7 ∷ [];
      mode = 0;
      root = 5;
      gives = result 0 0 0 0 5 3 2 1;
      code = 49 ∷ 0 ∷ 0 ∷ 3 ∷ 26 ∷ 1 ∷ 1 ∷ 0 ∷ 41 ∷ 2 ∷ 0 ∷ 0 ∷ 26 ∷ 1 ∷ 2 ∷ 0 ∷ 40 ∷ 1 ∷ 0 ∷ 0 ∷ [];
      constants = 2 ∷ 0 ∷ 1074266112 ∷ 2 ∷ 0 ∷ 1072693248 ∷ 2 ∷ 0 ∷ 1073741824 ∷ [];
      marks = [];
    }
    -- Name x: 40 0; frame 1
    ∷ record {
      nodes = 4 ∷ 7 ∷ 0 ∷ 0 ∷ 0 ∷ 0 ∷ [];
      list = [];
      names = 7 ∷ [];
      mode = 0;
      root = 0;
      gives = result 0 0 0 0 1 0 1 1;
      code = 40 ∷ 0 ∷ 0 ∷ 0 ∷ [];
      constants = [];
      marks = [];
    }
    -- Nil, no parameters: 26 0 0, 40 0
    ∷ record {
      nodes = 3 ∷ 0 ∷ 0 ∷ 0 ∷ 0 ∷ 0 ∷ [];
      list = [];
      names = [];
      mode = 0;
      root = 0;
      gives = result 0 0 0 0 2 1 1 0;
      code = 26 ∷ 0 ∷ 0 ∷ 0 ∷ 40 ∷ 0 ∷ 0 ∷ 0 ∷ [];
      constants = 0 ∷ 0 ∷ 0 ∷ [];
      marks = [];
    }
    -- 1 + 2, none: 26 1 0, 26 2 1, 0 0 1 2, 40 0; frame 3
    ∷ record {
      nodes = 0 ∷ 0 ∷ 1072693248 ∷ 0 ∷ 0 ∷ 0 ∷ 0 ∷ 0 ∷ 1073741824 ∷ 0 ∷ 0 ∷ 0 ∷ 5 ∷ 0 ∷ 0 ∷ 1 ∷ 0 ∷ 0 ∷ [];
      list = [];
      names = [];
      mode = 0;
      root = 2;
      gives = result 0 0 0 0 4 2 3 0;
      code = 26 ∷ 1 ∷ 0 ∷ 0 ∷ 26 ∷ 2 ∷ 1 ∷ 0 ∷ 0 ∷ 0 ∷ 1 ∷ 2 ∷ 40 ∷ 0 ∷ 0 ∷ 0 ∷ [];
      constants = 2 ∷ 0 ∷ 1072693248 ∷ 2 ∷ 0 ∷ 1073741824 ∷ [];
      marks = [];
    }
    -- 2 - x (x alone): 4 1 0 0
    ∷ record {
      nodes = 0 ∷ 0 ∷ 1073741824 ∷ 0 ∷ 0 ∷ 0 ∷ 4 ∷ 7 ∷ 0 ∷ 0 ∷ 0 ∷ 0 ∷ 5 ∷ 1 ∷ 0 ∷ 1 ∷ 0 ∷ 0 ∷ [];
      list = [];
      names = 7 ∷ [];
      mode = 0;
      root = 2;
      gives = result 0 0 0 0 2 1 2 1;
      code = 4 ∷ 1 ∷ 0 ∷ 0 ∷ 40 ∷ 1 ∷ 0 ∷ 0 ∷ [];
      constants = 2 ∷ 0 ∷ 1073741824 ∷ [];
      marks = [];
    }
    -- 2 + x: 1 1 0 0
    ∷ record {
      nodes = 0 ∷ 0 ∷ 1073741824 ∷ 0 ∷ 0 ∷ 0 ∷ 4 ∷ 7 ∷ 0 ∷ 0 ∷ 0 ∷ 0 ∷ 5 ∷ 0 ∷ 0 ∷ 1 ∷ 0 ∷ 0 ∷ [];
      list = [];
      names = 7 ∷ [];
      mode = 0;
      root = 2;
      gives = result 0 0 0 0 2 1 2 1;
      code = 1 ∷ 1 ∷ 0 ∷ 0 ∷ 40 ∷ 1 ∷ 0 ∷ 0 ∷ [];
      constants = 2 ∷ 0 ∷ 1073741824 ∷ [];
      marks = [];
    }
    -- x and y: 25 2 0, 42 2 2, 25 2 1, 40 2
    ∷ record {
      nodes = 4 ∷ 7 ∷ 0 ∷ 0 ∷ 0 ∷ 0 ∷ 4 ∷ 8 ∷ 0 ∷ 0 ∷ 0 ∷ 0 ∷ 8 ∷ 0 ∷ 1 ∷ 0 ∷ 0 ∷ 0 ∷ [];
      list = [];
      names = 7 ∷ 8 ∷ [];
      mode = 0;
      root = 2;
      gives = result 0 0 0 0 4 0 3 2;
      code = 25 ∷ 2 ∷ 0 ∷ 0 ∷ 42 ∷ 2 ∷ 2 ∷ 0 ∷ 25 ∷ 2 ∷ 1 ∷ 0 ∷ 40 ∷ 2 ∷ 0 ∷ 0 ∷ [];
      constants = [];
      marks = [];
    }
    -- if x 1, no else (x alone): 42 0 3, 26 1 0, 41 0, number 11
    ∷ record {
      nodes = 4 ∷ 7 ∷ 0 ∷ 0 ∷ 0 ∷ 0 ∷ 0 ∷ 0 ∷ 1072693248 ∷ 0 ∷ 0 ∷ 0 ∷ 10 ∷ 0 ∷ 1 ∷ 4294967295 ∷ 11 ∷ 12 ∷ [];
      list = [];
      names = 7 ∷ [];
      mode = 0;
      root = 2;
      gives = result 11 2 11 12 3 1 0 0;
      code = 42 ∷ 0 ∷ 3 ∷ 0 ∷ 26 ∷ 1 ∷ 0 ∷ 0 ∷ 41 ∷ 0 ∷ 0 ∷ 0 ∷ [];
      constants = 2 ∷ 0 ∷ 1072693248 ∷ [];
      marks = [];
    }
    -- z undeclared: 9, no code
    ∷ record {
      nodes = 4 ∷ 9 ∷ 0 ∷ 0 ∷ 11 ∷ 12 ∷ [];
      list = [];
      names = 7 ∷ 8 ∷ [];
      mode = 0;
      root = 0;
      gives = result 9 0 11 12 0 0 0 0;
      code = [];
      constants = [];
      marks = [];
    }
    -- x(y): 25 3 1, 39 2 0 1, 40 2
    ∷ record {
      nodes = 4 ∷ 7 ∷ 0 ∷ 0 ∷ 0 ∷ 0 ∷ 4 ∷ 8 ∷ 0 ∷ 0 ∷ 0 ∷ 0 ∷ 12 ∷ 0 ∷ 0 ∷ 1 ∷ 0 ∷ 0 ∷ [];
      list = 1 ∷ [];
      names = 7 ∷ 8 ∷ [];
      mode = 0;
      root = 2;
      gives = result 0 0 0 0 3 0 3 2;
      code = 25 ∷ 3 ∷ 1 ∷ 0 ∷ 39 ∷ 2 ∷ 0 ∷ 1 ∷ 40 ∷ 2 ∷ 0 ∷ 0 ∷ [];
      constants = [];
      marks = 0 ∷ [];
    }
    -- y(x): 15
    ∷ record {
      nodes = 4 ∷ 7 ∷ 0 ∷ 0 ∷ 0 ∷ 0 ∷ 4 ∷ 8 ∷ 0 ∷ 0 ∷ 0 ∷ 0 ∷ 12 ∷ 1 ∷ 0 ∷ 1 ∷ 11 ∷ 12 ∷ [];
      list = 0 ∷ [];
      names = 7 ∷ 8 ∷ [];
      mode = 0;
      root = 2;
      gives = result 15 2 11 12 0 0 0 0;
      code = [];
      constants = [];
      marks = [];
    }
    -- x(y.p): three instructions, 17 at place 0
    ∷ record {
      nodes = 4 ∷ 7 ∷ 0 ∷ 0 ∷ 0 ∷ 0 ∷ 4 ∷ 8 ∷ 0 ∷ 0 ∷ 0 ∷ 0 ∷ 13 ∷ 1 ∷ 5 ∷ 0 ∷ 0 ∷ 0 ∷ 12 ∷ 0 ∷ 0 ∷ 1 ∷ 0 ∷ 0 ∷ [];
      list = 2 ∷ [];
      names = 7 ∷ 8 ∷ [];
      mode = 0;
      root = 3;
      gives = result 17 0 0 0 3 1 0 0;
      code = 33 ∷ 0 ∷ 1 ∷ 0 ∷ 39 ∷ 2 ∷ 0 ∷ 1 ∷ 40 ∷ 2 ∷ 0 ∷ 0 ∷ [];
      constants = 3 ∷ 5 ∷ 0 ∷ [];
      marks = 0 ∷ [];
    }
    -- ---- calls and maps, which the running law leaves out; divide and modulo; modes 1 and 2: kaori's own answers
    -- x(y, z): a call of two arguments
    ∷ record {
      nodes = 4 ∷ 7 ∷ 0 ∷ 0 ∷ 0 ∷ 0 ∷ 4 ∷ 8 ∷ 0 ∷ 0 ∷ 0 ∷ 0 ∷ 4 ∷ 9 ∷ 0 ∷ 0 ∷ 0 ∷ 0 ∷ 12 ∷ 0 ∷ 0 ∷ 2 ∷ 0 ∷ 0 ∷ [];
      list = 1 ∷ 2 ∷ [];
      names = 7 ∷ 8 ∷ 9 ∷ [];
      mode = 0;
      root = 3;
      gives = result 0 0 0 0 4 0 4 3;
      code = 25 ∷ 4 ∷ 1 ∷ 0 ∷ 25 ∷ 5 ∷ 2 ∷ 0 ∷ 39 ∷ 3 ∷ 0 ∷ 2 ∷ 40 ∷ 3 ∷ 0 ∷ 0 ∷ [];
      constants = [];
      marks = 0 ∷ 1 ∷ [];
    }
    -- z(x + y, y): the second argument is in its own register, and marks the instruction before it
    ∷ record {
      nodes = 4 ∷ 7 ∷ 0 ∷ 0 ∷ 0 ∷ 0 ∷ 4 ∷ 8 ∷ 0 ∷ 0 ∷ 0 ∷ 0 ∷ 4 ∷ 9 ∷ 0 ∷ 0 ∷ 0 ∷ 0 ∷ 5 ∷ 0 ∷ 0 ∷ 1 ∷ 0 ∷ 0 ∷ 12 ∷ 2 ∷ 0 ∷ 2 ∷ 0 ∷ 0 ∷ [];
      list = 3 ∷ 1 ∷ [];
      names = 7 ∷ 8 ∷ 9 ∷ [];
      mode = 0;
      root = 4;
      gives = result 0 0 0 0 3 0 4 3;
      code = 0 ∷ 8 ∷ 0 ∷ 1 ∷ 39 ∷ 3 ∷ 2 ∷ 2 ∷ 40 ∷ 3 ∷ 0 ∷ 0 ∷ [];
      constants = [];
      marks = 0 ∷ 0 ∷ [];
    }
    -- x(y(z)): a call as an argument
    ∷ record {
      nodes = 4 ∷ 7 ∷ 0 ∷ 0 ∷ 0 ∷ 0 ∷ 4 ∷ 8 ∷ 0 ∷ 0 ∷ 0 ∷ 0 ∷ 4 ∷ 9 ∷ 0 ∷ 0 ∷ 0 ∷ 0 ∷ 12 ∷ 1 ∷ 0 ∷ 1 ∷ 0 ∷ 0 ∷ 12 ∷ 0 ∷ 1 ∷ 1 ∷ 0 ∷ 0 ∷ [];
      list = 2 ∷ 3 ∷ [];
      names = 7 ∷ 8 ∷ 9 ∷ [];
      mode = 0;
      root = 4;
      gives = result 0 0 0 0 4 0 4 3;
      code = 25 ∷ 4 ∷ 2 ∷ 0 ∷ 39 ∷ 4 ∷ 1 ∷ 1 ∷ 39 ∷ 3 ∷ 0 ∷ 1 ∷ 40 ∷ 3 ∷ 0 ∷ 0 ∷ [];
      constants = [];
      marks = 0 ∷ 1 ∷ [];
    }
    -- x(y)(z): a call as the callee
    ∷ record {
      nodes = 4 ∷ 7 ∷ 0 ∷ 0 ∷ 0 ∷ 0 ∷ 4 ∷ 8 ∷ 0 ∷ 0 ∷ 0 ∷ 0 ∷ 4 ∷ 9 ∷ 0 ∷ 0 ∷ 0 ∷ 0 ∷ 12 ∷ 0 ∷ 0 ∷ 1 ∷ 0 ∷ 0 ∷ 12 ∷ 3 ∷ 1 ∷ 1 ∷ 0 ∷ 0 ∷ [];
      list = 1 ∷ 2 ∷ [];
      names = 7 ∷ 8 ∷ 9 ∷ [];
      mode = 0;
      root = 4;
      gives = result 0 0 0 0 5 0 5 3;
      code = 25 ∷ 5 ∷ 2 ∷ 0 ∷ 25 ∷ 5 ∷ 1 ∷ 0 ∷ 39 ∷ 4 ∷ 0 ∷ 1 ∷ 39 ∷ 3 ∷ 4 ∷ 1 ∷ 40 ∷ 3 ∷ 0 ∷ 0 ∷ [];
      constants = [];
      marks = 0 ∷ 1 ∷ [];
    }
    -- {x: 1, y}: a name key with a literal (KK), and one without a value (KR)
    ∷ record {
      nodes = 4 ∷ 7 ∷ 0 ∷ 0 ∷ 0 ∷ 0 ∷ 0 ∷ 0 ∷ 1072693248 ∷ 0 ∷ 0 ∷ 0 ∷ 4 ∷ 8 ∷ 0 ∷ 0 ∷ 0 ∷ 0 ∷ 14 ∷ 0 ∷ 2 ∷ 0 ∷ 0 ∷ 0 ∷ [];
      list = 0 ∷ 1 ∷ 2 ∷ 4294967295 ∷ [];
      names = 7 ∷ 8 ∷ [];
      mode = 0;
      root = 3;
      gives = result 0 0 0 0 4 3 3 2;
      code = 27 ∷ 2 ∷ 0 ∷ 0 ∷ 31 ∷ 2 ∷ 0 ∷ 1 ∷ 30 ∷ 2 ∷ 2 ∷ 1 ∷ 40 ∷ 2 ∷ 0 ∷ 0 ∷ [];
      constants = 3 ∷ 7 ∷ 0 ∷ 2 ∷ 0 ∷ 1072693248 ∷ 3 ∷ 8 ∷ 0 ∷ [];
      marks = [];
    }
    -- {x: y + y}: a name key with a computed value (KR)
    ∷ record {
      nodes = 4 ∷ 7 ∷ 0 ∷ 0 ∷ 0 ∷ 0 ∷ 4 ∷ 8 ∷ 0 ∷ 0 ∷ 0 ∷ 0 ∷ 5 ∷ 0 ∷ 1 ∷ 1 ∷ 0 ∷ 0 ∷ 14 ∷ 0 ∷ 1 ∷ 0 ∷ 0 ∷ 0 ∷ [];
      list = 0 ∷ 2 ∷ [];
      names = 7 ∷ 8 ∷ [];
      mode = 0;
      root = 3;
      gives = result 0 0 0 0 4 1 4 2;
      code = 27 ∷ 2 ∷ 0 ∷ 0 ∷ 0 ∷ 3 ∷ 1 ∷ 1 ∷ 30 ∷ 2 ∷ 0 ∷ 3 ∷ 40 ∷ 2 ∷ 0 ∷ 0 ∷ [];
      constants = 3 ∷ 7 ∷ 0 ∷ [];
      marks = [];
    }
    -- {1: true, 2: x}: literal keys, with a literal (KK) and with a name (KR)
    ∷ record {
      nodes = 0 ∷ 0 ∷ 1072693248 ∷ 0 ∷ 0 ∷ 0 ∷ 2 ∷ 1 ∷ 0 ∷ 0 ∷ 0 ∷ 0 ∷ 0 ∷ 0 ∷ 1073741824 ∷ 0 ∷ 0 ∷ 0 ∷ 4 ∷ 7 ∷ 0 ∷ 0 ∷ 0 ∷ 0 ∷ 14 ∷ 0 ∷ 2 ∷ 0 ∷ 0 ∷ 0 ∷ [];
      list = 0 ∷ 1 ∷ 2 ∷ 3 ∷ [];
      names = 7 ∷ [];
      mode = 0;
      root = 4;
      gives = result 0 0 0 0 4 3 2 1;
      code = 27 ∷ 1 ∷ 0 ∷ 0 ∷ 31 ∷ 1 ∷ 0 ∷ 1 ∷ 30 ∷ 1 ∷ 2 ∷ 0 ∷ 40 ∷ 1 ∷ 0 ∷ 0 ∷ [];
      constants = 2 ∷ 0 ∷ 1072693248 ∷ 1 ∷ 1 ∷ 0 ∷ 2 ∷ 0 ∷ 1073741824 ∷ [];
      marks = [];
    }
    -- {x.p: 1, x.p: y + y}: computed keys, with a literal (RK) and with a computed value (RR)
    ∷ record {
      nodes = 4 ∷ 7 ∷ 0 ∷ 0 ∷ 0 ∷ 0 ∷ 13 ∷ 0 ∷ 5 ∷ 0 ∷ 0 ∷ 0 ∷ 0 ∷ 0 ∷ 1072693248 ∷ 0 ∷ 0 ∷ 0 ∷ 4 ∷ 8 ∷ 0 ∷ 0 ∷ 0 ∷ 0 ∷ 5 ∷ 0 ∷ 3 ∷ 3 ∷ 0 ∷ 0 ∷ 14 ∷ 0 ∷ 2 ∷ 0 ∷ 0 ∷ 0 ∷ [];
      list = 1 ∷ 2 ∷ 1 ∷ 4 ∷ [];
      names = 7 ∷ 8 ∷ [];
      mode = 0;
      root = 5;
      gives = result 0 0 0 0 7 2 6 2;
      code = 27 ∷ 2 ∷ 0 ∷ 0 ∷ 33 ∷ 3 ∷ 0 ∷ 0 ∷ 29 ∷ 2 ∷ 3 ∷ 1 ∷ 33 ∷ 4 ∷ 0 ∷ 0 ∷ 0 ∷ 5 ∷ 1 ∷ 1 ∷ 28 ∷ 2 ∷ 4 ∷ 5 ∷ 40 ∷ 2 ∷ 0 ∷ 0 ∷ [];
      constants = 3 ∷ 5 ∷ 0 ∷ 2 ∷ 0 ∷ 1072693248 ∷ [];
      marks = [];
    }
    -- x / 2 % y: a divide by a constant, a modulo of registers
    ∷ record {
      nodes = 4 ∷ 7 ∷ 0 ∷ 0 ∷ 0 ∷ 0 ∷ 0 ∷ 0 ∷ 1073741824 ∷ 0 ∷ 0 ∷ 0 ∷ 5 ∷ 3 ∷ 0 ∷ 1 ∷ 0 ∷ 0 ∷ 4 ∷ 8 ∷ 0 ∷ 0 ∷ 0 ∷ 0 ∷ 5 ∷ 4 ∷ 2 ∷ 3 ∷ 0 ∷ 0 ∷ [];
      list = [];
      names = 7 ∷ 8 ∷ [];
      mode = 0;
      root = 4;
      gives = result 0 0 0 0 3 1 4 2;
      code = 8 ∷ 3 ∷ 0 ∷ 0 ∷ 10 ∷ 2 ∷ 3 ∷ 1 ∷ 40 ∷ 2 ∷ 0 ∷ 0 ∷ [];
      constants = 2 ∷ 0 ∷ 1073741824 ∷ [];
      marks = [];
    }
    -- 2 % (x / y)
    ∷ record {
      nodes = 0 ∷ 0 ∷ 1073741824 ∷ 0 ∷ 0 ∷ 0 ∷ 4 ∷ 7 ∷ 0 ∷ 0 ∷ 0 ∷ 0 ∷ 4 ∷ 8 ∷ 0 ∷ 0 ∷ 0 ∷ 0 ∷ 5 ∷ 3 ∷ 1 ∷ 2 ∷ 0 ∷ 0 ∷ 5 ∷ 4 ∷ 0 ∷ 3 ∷ 0 ∷ 0 ∷ [];
      list = [];
      names = 7 ∷ 8 ∷ [];
      mode = 0;
      root = 4;
      gives = result 0 0 0 0 3 1 4 2;
      code = 7 ∷ 3 ∷ 0 ∷ 1 ∷ 12 ∷ 2 ∷ 0 ∷ 3 ∷ 40 ∷ 2 ∷ 0 ∷ 0 ∷ [];
      constants = 2 ∷ 0 ∷ 1073741824 ∷ [];
      marks = [];
    }
    -- 2 / (x % 2)
    ∷ record {
      nodes = 0 ∷ 0 ∷ 1073741824 ∷ 0 ∷ 0 ∷ 0 ∷ 4 ∷ 7 ∷ 0 ∷ 0 ∷ 0 ∷ 0 ∷ 5 ∷ 4 ∷ 1 ∷ 0 ∷ 0 ∷ 0 ∷ 5 ∷ 3 ∷ 0 ∷ 2 ∷ 0 ∷ 0 ∷ [];
      list = [];
      names = 7 ∷ [];
      mode = 0;
      root = 3;
      gives = result 0 0 0 0 3 1 3 1;
      code = 11 ∷ 2 ∷ 0 ∷ 0 ∷ 9 ∷ 1 ∷ 0 ∷ 2 ∷ 40 ∷ 1 ∷ 0 ∷ 0 ∷ [];
      constants = 2 ∷ 0 ∷ 1073741824 ∷ [];
      marks = [];
    }
    -- x(y) in mode 1: tested, the jump at place 2
    ∷ record {
      nodes = 4 ∷ 7 ∷ 0 ∷ 0 ∷ 0 ∷ 0 ∷ 4 ∷ 8 ∷ 0 ∷ 0 ∷ 0 ∷ 0 ∷ 12 ∷ 0 ∷ 0 ∷ 1 ∷ 0 ∷ 0 ∷ [];
      list = 1 ∷ [];
      names = 7 ∷ 8 ∷ [];
      mode = 1;
      root = 2;
      gives = result 0 2 0 0 3 0 3 2;
      code = 25 ∷ 3 ∷ 1 ∷ 0 ∷ 39 ∷ 2 ∷ 0 ∷ 1 ∷ 42 ∷ 2 ∷ 0 ∷ 0 ∷ [];
      constants = [];
      marks = 0 ∷ [];
    }
    -- x(y) < 1 in mode 1: fused, the jump at place 2
    ∷ record {
      nodes = 4 ∷ 7 ∷ 0 ∷ 0 ∷ 0 ∷ 0 ∷ 4 ∷ 8 ∷ 0 ∷ 0 ∷ 0 ∷ 0 ∷ 12 ∷ 0 ∷ 0 ∷ 1 ∷ 0 ∷ 0 ∷ 0 ∷ 0 ∷ 1072693248 ∷ 0 ∷ 0 ∷ 0 ∷ 5 ∷ 9 ∷ 2 ∷ 3 ∷ 0 ∷ 0 ∷ [];
      list = 1 ∷ [];
      names = 7 ∷ 8 ∷ [];
      mode = 1;
      root = 4;
      gives = result 0 2 0 0 3 1 3 2;
      code = 25 ∷ 3 ∷ 1 ∷ 0 ∷ 39 ∷ 2 ∷ 0 ∷ 1 ∷ 49 ∷ 2 ∷ 0 ∷ 0 ∷ [];
      constants = 2 ∷ 0 ∷ 1072693248 ∷ [];
      marks = 0 ∷ [];
    }
    -- x < y in mode 2: fused
    ∷ record {
      nodes = 4 ∷ 7 ∷ 0 ∷ 0 ∷ 0 ∷ 0 ∷ 4 ∷ 8 ∷ 0 ∷ 0 ∷ 0 ∷ 0 ∷ 5 ∷ 9 ∷ 0 ∷ 1 ∷ 0 ∷ 0 ∷ [];
      list = [];
      names = 7 ∷ 8 ∷ [];
      mode = 2;
      root = 2;
      gives = result 0 0 0 0 1 0 2 2;
      code = 44 ∷ 0 ∷ 1 ∷ 0 ∷ [];
      constants = [];
      marks = [];
    }
    -- x + y >= 1 in mode 2: fused, the jump at place 1
    ∷ record {
      nodes = 4 ∷ 7 ∷ 0 ∷ 0 ∷ 0 ∷ 0 ∷ 4 ∷ 8 ∷ 0 ∷ 0 ∷ 0 ∷ 0 ∷ 5 ∷ 0 ∷ 0 ∷ 1 ∷ 0 ∷ 0 ∷ 0 ∷ 0 ∷ 1072693248 ∷ 0 ∷ 0 ∷ 0 ∷ 5 ∷ 8 ∷ 2 ∷ 3 ∷ 0 ∷ 0 ∷ [];
      list = [];
      names = 7 ∷ 8 ∷ [];
      mode = 2;
      root = 4;
      gives = result 0 1 0 0 2 1 3 2;
      code = 0 ∷ 2 ∷ 0 ∷ 1 ∷ 49 ∷ 2 ∷ 0 ∷ 0 ∷ [];
      constants = 2 ∷ 0 ∷ 1072693248 ∷ [];
      marks = [];
    }
    -- x and y in mode 2: tested, the jump at place 3
    ∷ record {
      nodes = 4 ∷ 7 ∷ 0 ∷ 0 ∷ 0 ∷ 0 ∷ 4 ∷ 8 ∷ 0 ∷ 0 ∷ 0 ∷ 0 ∷ 8 ∷ 0 ∷ 1 ∷ 0 ∷ 0 ∷ 0 ∷ [];
      list = [];
      names = 7 ∷ 8 ∷ [];
      mode = 2;
      root = 2;
      gives = result 0 3 0 0 4 0 3 2;
      code = 25 ∷ 2 ∷ 0 ∷ 0 ∷ 42 ∷ 2 ∷ 2 ∷ 0 ∷ 25 ∷ 2 ∷ 1 ∷ 0 ∷ 43 ∷ 2 ∷ 0 ∷ 0 ∷ [];
      constants = [];
      marks = [];
    }
    -- 1 == 2 in mode 2: two literals, tested
    ∷ record {
      nodes = 0 ∷ 0 ∷ 1072693248 ∷ 0 ∷ 0 ∷ 0 ∷ 0 ∷ 0 ∷ 1073741824 ∷ 0 ∷ 0 ∷ 0 ∷ 5 ∷ 5 ∷ 0 ∷ 1 ∷ 0 ∷ 0 ∷ [];
      list = [];
      names = [];
      mode = 2;
      root = 2;
      gives = result 0 3 0 0 4 2 3 0;
      code = 26 ∷ 1 ∷ 0 ∷ 0 ∷ 26 ∷ 2 ∷ 1 ∷ 0 ∷ 13 ∷ 0 ∷ 1 ∷ 2 ∷ 43 ∷ 0 ∷ 0 ∷ 0 ∷ [];
      constants = 2 ∷ 0 ∷ 1072693248 ∷ 2 ∷ 0 ∷ 1073741824 ∷ [];
      marks = [];
    }
    -- if x and y, y else x: the condition's register, 2, stays held, so the if's is 3
    ∷ record {
      nodes = 4 ∷ 7 ∷ 0 ∷ 0 ∷ 0 ∷ 0 ∷ 4 ∷ 8 ∷ 0 ∷ 0 ∷ 0 ∷ 0 ∷ 8 ∷ 0 ∷ 1 ∷ 0 ∷ 0 ∷ 0 ∷ 10 ∷ 2 ∷ 1 ∷ 0 ∷ 0 ∷ 0 ∷ [];
      list = [];
      names = 7 ∷ 8 ∷ [];
      mode = 0;
      root = 3;
      gives = result 0 0 0 0 8 0 4 2;
      code = 25 ∷ 2 ∷ 0 ∷ 0 ∷ 42 ∷ 2 ∷ 2 ∷ 0 ∷ 25 ∷ 2 ∷ 1 ∷ 0 ∷ 42 ∷ 2 ∷ 3 ∷ 0 ∷ 25 ∷ 3 ∷ 1 ∷ 0 ∷ 41 ∷ 2 ∷ 0 ∷ 0 ∷ 25 ∷ 3 ∷ 0 ∷ 0 ∷ 40 ∷ 3 ∷ 0 ∷ 0 ∷ [];
      constants = [];
      marks = [];
    }
    -- (not x + not y) + (not y + not x): both operands' registers are given back, so 5 is taken twice
    ∷ record {
      nodes =
          4 ∷ 7 ∷ 0 ∷ 0 ∷ 0 ∷ 0
          ∷ 7 ∷ 0 ∷ 0 ∷ 0 ∷ 0 ∷ 0
          ∷ 4 ∷ 8 ∷ 0 ∷ 0 ∷ 0 ∷ 0
          ∷ 7 ∷ 2 ∷ 0 ∷ 0 ∷ 0 ∷ 0
          ∷ 5 ∷ 0 ∷ 1 ∷ 3 ∷ 0 ∷ 0
          ∷ 5 ∷ 0 ∷ 3 ∷ 1 ∷ 0 ∷ 0
          ∷ 5 ∷ 0 ∷ 4 ∷ 5 ∷ 0 ∷ 0 ∷ [];
      list = [];
      names = 7 ∷ 8 ∷ [];
      mode = 0;
      root = 6;
      gives = result 0 0 0 0 8 0 7 2;
      code = 23 ∷ 4 ∷ 0 ∷ 0 ∷ 23 ∷ 5 ∷ 1 ∷ 0 ∷ 0 ∷ 3 ∷ 4 ∷ 5 ∷ 23 ∷ 5 ∷ 1 ∷ 0 ∷ 23 ∷ 6 ∷ 0 ∷ 0 ∷ 0 ∷ 4 ∷ 5 ∷ 6 ∷ 0 ∷ 2 ∷ 3 ∷ 4 ∷ 40 ∷ 2 ∷ 0 ∷ 0 ∷ [];
      constants = [];
      marks = [];
    }
    -- ---- refused before the walk: document 01's numbers
    -- minus zero: 5
    ∷ record {
      nodes = 0 ∷ 0 ∷ 2147483648 ∷ 0 ∷ 11 ∷ 12 ∷ [];
      list = [];
      names = [];
      mode = 0;
      root = 0;
      gives = result 5 0 0 0 0 0 0 0;
      code = [];
      constants = [];
      marks = [];
    }
    -- a call of itself, with one argument and no list: 6 is asked before 7
    ∷ record {
      nodes = 12 ∷ 0 ∷ 0 ∷ 1 ∷ 11 ∷ 12 ∷ [];
      list = [];
      names = [];
      mode = 0;
      root = 0;
      gives = result 6 0 0 0 0 0 0 0;
      code = [];
      constants = [];
      marks = [];
    }
    ∷ []
