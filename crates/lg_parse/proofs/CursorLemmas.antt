-- What stands in front of a cursor.
use Rattle.std.proofs.Common.{◌≡◌, Bool, false, Option, None, Some, IfSome, IfNone, List, [], ◌∷◌, length, drop, refl, sym, ap, ◌∙◌, arith}
use Rattle.std.specs.List.{slice_get}
use Rattle.lg_parse.specs.Parsing.{behind, has_comma}
use Rattle.lg_parse.specs.Reading.{terminal_of, terminals_view}
use Rattle.lg_parse.specs.declared.terminals.Terminal.{Terminal as Piece}

pub front_some : (o : Option Piece) (ts : List Piece) → o ≡ slice_get ts 0 → IfSome o (λ t. terminals_view ts ≡ terminal_of t ∷ behind (terminals_view ts))
front_some None ts e = tt
front_some (Some t) [] e = absurd (cc)
front_some (Some t) (u ∷ ts) e = let same : t ≡ u = cc in ap (λ (z : Piece). terminal_of z ∷ terminals_view ts) (sym same)

pub front_none : (o : Option Piece) (ts : List Piece) → o ≡ slice_get ts 0 → IfNone o (terminals_view ts ≡ [])
front_none None [] e = refl
front_none None (u ∷ ts) e = absurd (cc)
front_none (Some t) ts e = tt

pub behind_rest : (ts : List Piece) → terminals_view (drop 1 ts) ≡ behind (terminals_view ts)
behind_rest [] = refl
behind_rest (t ∷ ts) = refl

pub behind_none : (ts : List Piece) → length ts ≡ 0 → terminals_view ts ≡ behind (terminals_view ts)
behind_none [] e = refl
behind_none (t ∷ ts) e = absurd (omega arith)

pub second_some : (o : Option Piece) (ts : List Piece) → o ≡ slice_get ts 1 → IfSome o (λ t. behind (terminals_view ts) ≡ terminal_of t ∷ behind (behind (terminals_view ts)))
second_some o [] e = front_some o [] e
second_some o (u ∷ ts) e = front_some o ts e

pub second_none : (o : Option Piece) (ts : List Piece) → o ≡ slice_get ts 1 → IfNone o (behind (terminals_view ts) ≡ [])
second_none o [] e = front_none o [] e
second_none o (u ∷ ts) e = front_none o ts e

-- what is searched behind the terminal in front
pub none_behind : (ts : List Piece) → length ts ≡ 0 → false ≡ has_comma (behind (terminals_view ts)) 0
none_behind [] e = refl
none_behind (t ∷ ts) e = absurd (omega arith)

pub searched_behind : (b : Bool) (ts us : List Piece) → us ≡ drop 1 ts → b ≡ has_comma (terminals_view us) 0 → b ≡ has_comma (behind (terminals_view ts)) 0
searched_behind b ts us p e = e ∙ ap (λ (z : List Piece). has_comma (terminals_view z) 0) p ∙ ap (λ z. has_comma z 0) (behind_rest ts)
