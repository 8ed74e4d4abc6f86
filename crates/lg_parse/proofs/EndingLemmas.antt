-- What it says of terminals how reading their head ended.
use Rattle.std.proofs.Common.{◌≡◌, ◌<◌, ◌≤◌, None, Some, Err, List, [], ◌∷◌, length, refl, sym, ap, ◌∙◌, arith}
use Rattle.lg_tree.specs.HeadView.{head_of}
use Rattle.lg_parse.specs.declared.ends.ParseEnd.{ParseEnd}
use Rattle.lg_parse.specs.declared.ends.ParseEnd.TheVariants.{Syntax, NoMemory}
use Rattle.lg_parse.specs.Terminal.{Terminal}
use Rattle.lg_parse.specs.Brackets.{NestsAtMost}
use Rattle.lg_tree.specs.Heads.{HeadTree, head_height}
use Rattle.lg_parse.specs.Statements.{HoldsHead}
use Rattle.lg_parse.specs.Parsing.{Outcome}
use Rattle.lg_parse.specs.ParsingHeads.{head, EndsHead}
use Rattle.lg_parse.specs.Reading.{Reads}
use Rattle.lg_parse.proofs.Bindings.{got}
use Rattle.lg_parse.proofs.HeadLemmas.{head_found, head_reached}

abbrev nothing : Outcome HeadTree
nothing = None

none_some : (s : HeadTree) → got s [] ≡ nothing → ⊥
none_some s e = cc

-- where nothing is found, no head is
pub none_is : (s : HeadTree) → got s [] ≡ nothing → ⊥
none_is s e = none_some s e

-- nothing is found
pub ends_none : (ts us rest : List Terminal) (e : ParseEnd) → us ≡ ts → Reads head_of (head us) (Err e) rest → EndsHead ts e
ends_none ts us rest Syntax p h = λ s k. none_some s (sym (ap head p ∙ head_reached ts s k) ∙ h)
ends_none ts us rest NoMemory p h = tt

abbrev left_in : Outcome HeadTree → List Terminal
left_in None = []
left_in (Some r) = r.1

-- more is left
pub ends_left : (ts us rest : List Terminal) (x : HeadTree) → us ≡ ts → head us ≡ got x rest → 0 < length rest → (s : HeadTree) → HoldsHead ts s → ⊥
ends_left ts us rest x p h some s k =
    let found : head us ≡ got s [] = ap head p ∙ head_reached ts s k in
    let same : rest ≡ [] = ap left_in (sym h ∙ found) in
    let none : length rest ≡ 0 = ap length same in
    omega arith

no_rest : (rest : List Terminal) → length rest ≤ 0 → rest ≡ []
no_rest [] h = refl
no_rest (t ∷ ts) h = absurd (omega arith)

-- the whole is found
pub held : (ts us rest : List Terminal) (x : HeadTree) → us ≡ ts → head us ≡ got x rest → length rest ≤ 0 → NestsAtMost 64 ts → head_height x ≤ 200 → HoldsHead ts x
held ts us rest x p h none shallow low = record {
  spelled = head_found ts x (ap head (sym p) ∙ h ∙ ap (got x) (no_rest rest none));
  shallow = shallow;
  low = low;
}

-- where more is left, no head is found
pub left_is : (s x : HeadTree) (t : Terminal) (ts : List Terminal) → got s [] ≡ got x (t ∷ ts) → ⊥
left_is s x t ts e = let same : [] ≡ t ∷ ts = ap left_in e in cc
