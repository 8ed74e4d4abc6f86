-- A function value that parses the rules that stand inside, to a depth.
use Rattle.std.specs.Prelude.{ℕ, Result}
use Rattle.std.specs.declared.alloc.Global.{Global}
use denote.Ref.{MutBor}
use Rattle.lg_parse.specs.declared.cursor.Cursor.{Cursor}
use Rattle.lg_parse.specs.declared.ends.ParseEnd.{ParseEnd}
use Rattle.lg_parse.specs.declared.parsed.Parsed.{Parsed}
use Rattle.lg_parse.specs.declared.rules.Rule.{Rule}
use Rattle.lg_parse.specs.Parsing.{parse}
use Rattle.lg_parse.specs.Parts.{parsed_tree}
use Rattle.lg_parse.specs.Reading.{ahead, Reads}

pub record Nests (depth : ℕ) (pre : Global → MutBor Cursor → ℕ → Rule → Type 0)
    (post : Global → MutBor Cursor → ℕ → Rule → Result Parsed ParseEnd → MutBor Cursor → Type 0)
    : Type 0 where
  pub callable : (alloc : Global) (old : MutBor Cursor) (r : Rule) → pre alloc old depth r
  pub reads : (alloc : Global) (old new : MutBor Cursor) (r : Rule)
      (result : Result Parsed ParseEnd)
      → post alloc old depth r result new
      → Reads parsed_tree (parse depth r (ahead old.now)) result (ahead new.now)
