-- What is in two rectangles.
use Rattle.std.proofs.Common.{◌≡◌, ℕ, zero, suc, ◌+◌, ◌<◌, ◌≤◌, ◌↔◌, List, [], ◌∷◌, ◌++◌, length, get_or, set, take, refl, sym, ap, ◌∙◌, arith}
use Rattle.std.specs.List.{All}
use Rattle.std.proofs.Math.Nat.{mul-le-mul}
use Rattle.std.proofs.lemmas.List.{take_more, take_more_set, take_all}
use Rattle.std.proofs.lemmas.List.Elements.{All-nil, All-cons, All-head, All-tail}
use Rattle.lg_space.specs.Rectangle.{IsIn, volume_of}
use Rattle.lg_space.specs.Stored.{IsStorable, MAX_END}
use Rattle.lg_space.specs.Common.{common_range}

-- axis by axis
abbrev pub meeting : List (ℕ × ℕ) → List (ℕ × ℕ) → List (ℕ × ℕ)
meeting [] b = []
meeting (x ∷ a) [] = []
meeting (x ∷ a) (y ∷ b) = common_range x y ∷ meeting a b

pub length-meeting : (a b : List (ℕ × ℕ)) → length a ≡ length b → length (meeting a b) ≡ length a
length-meeting [] b e = refl
length-meeting (x ∷ a) [] e = absurd (omega arith)
length-meeting (x ∷ a) (y ∷ b) e = ap suc (length-meeting a b (omega arith))

get_or-meeting : (a b : List (ℕ × ℕ)) (i : ℕ) (d x y : ℕ × ℕ) → i < length a → i < length b → get_or (meeting a b) i d ≡ common_range (get_or a i x) (get_or b i y)
get_or-meeting [] b i d x y h g = absurd (omega arith)
get_or-meeting (v ∷ a) [] i d x y h g = absurd (omega arith)
get_or-meeting (v ∷ a) (w ∷ b) zero d x y h g = refl
get_or-meeting (v ∷ a) (w ∷ b) (suc i) d x y h g = get_or-meeting a b i d x y (omega arith) (omega arith)

meeting_long : (a b : List (ℕ × ℕ)) (i : ℕ) → i < length a → i < length b → i < length (meeting a b)
meeting_long [] b i h g = absurd (omega arith)
meeting_long (v ∷ a) [] i h g = absurd (omega arith)
meeting_long (v ∷ a) (w ∷ b) zero h g = omega arith
meeting_long (v ∷ a) (w ∷ b) (suc i) h g = let rest = meeting_long a b i (omega arith) (omega arith) in omega arith

-- what is in both is in the meeting, and nothing else
pub in-meeting : (a b : List (ℕ × ℕ)) (index : List ℕ) → length a ≡ length b → IsIn (meeting a b) index ↔ (IsIn a index × IsIn b index)
in-meeting [] [] [] e = (λ h. (h, h), λ h. h.0)
in-meeting [] [] (i ∷ index) e = (λ h. absurd h, λ h. absurd h.0)
in-meeting [] (y ∷ b) index e = absurd (omega arith)
in-meeting (x ∷ a) [] index e = absurd (omega arith)
in-meeting (x ∷ a) (y ∷ b) [] e = (λ h. absurd h, λ h. absurd h.0)
in-meeting (x ∷ a) (y ∷ b) (i ∷ index) e =
    let rest = in-meeting a b index (omega arith) in
    (λ h. (let r = rest.0 h.2 in ((omega arith, omega arith, r.0), (omega arith, omega arith, r.1))), λ h. (omega arith, omega arith, rest.1 (h.0.2, h.1.2)))

volume-meeting : (a b : List (ℕ × ℕ)) → length a ≡ length b → volume_of (meeting a b) ≤ volume_of a
volume-meeting [] b e = omega arith
volume-meeting (x ∷ a) [] e = absurd (omega arith)
volume-meeting (x ∷ a) (y ∷ b) e = mul-le-mul (omega arith) (volume-meeting a b (omega arith))

ordered-meeting : (a b : List (ℕ × ℕ)) → All (λ (range : ℕ × ℕ). range.0 ≤ range.1) (meeting a b)
ordered-meeting [] b = All-nil _
ordered-meeting (x ∷ a) [] = All-nil _
ordered-meeting (x ∷ a) (y ∷ b) = All-cons (λ (range : ℕ × ℕ). range.0 ≤ range.1) _ _ (omega arith) (ordered-meeting a b)

ends-meeting : (limit : ℕ) (a b : List (ℕ × ℕ)) → All (λ (range : ℕ × ℕ). range.0 ≤ range.1) a → All (λ (range : ℕ × ℕ). range.1 ≤ limit) a
    → All (λ (range : ℕ × ℕ). range.0 ≤ range.1) b → All (λ (range : ℕ × ℕ). range.1 ≤ limit) b → All (λ (range : ℕ × ℕ). range.1 ≤ limit) (meeting a b)
ends-meeting limit [] b o e p f = All-nil _
ends-meeting limit (x ∷ a) [] o e p f = All-nil _
ends-meeting limit (x ∷ a) (y ∷ b) o e p f =
    let ordered : (ℕ × ℕ) → Type 0 = λ range. range.0 ≤ range.1 in
    let below : (ℕ × ℕ) → Type 0 = λ range. range.1 ≤ limit in
    let ox = All-head ordered x a o in
    let ex = All-head below x a e in
    let oy = All-head ordered y b p in
    let ey = All-head below y b f in
    All-cons below (common_range x y) (meeting a b) (omega arith) (ends-meeting limit a b (All-tail ordered x a o) (All-tail below x a e) (All-tail ordered y b p) (All-tail below y b f))

pub storable-meeting : (a b : List (ℕ × ℕ)) → length a ≡ length b → IsStorable a → IsStorable b → IsStorable (meeting a b)
storable-meeting a b e h g = record {
  axes = omega (arith, length-meeting a b e, h.axes);
  ordered = ordered-meeting a b;
  ends = ends-meeting MAX_END a b h.ordered h.ends g.ordered g.ends;
  volume = omega (arith, volume-meeting a b e, h.volume);
}

-- one more axis
pub meeting_more : (a b kept : List (ℕ × ℕ)) (axis : ℕ) (made : ℕ × ℕ) → length a ≡ length b → axis < length a → axis < length kept
    → made ≡ common_range (get_or a axis (0, 0)) (get_or b axis (0, 0)) → take axis kept ≡ take axis (meeting a b)
    → take (axis + 1) (set kept axis made) ≡ take (axis + 1) (meeting a b)
meeting_more a b kept axis made same h room is so_far =
    take_more_set kept axis made room ∙ ap (λ l. l ++ made ∷ []) so_far
    ∙ ap (λ z. take axis (meeting a b) ++ z ∷ []) (is ∙ sym (get_or-meeting a b axis made (0, 0) (0, 0) h (omega arith)))
    ∙ sym (take_more (meeting a b) axis made (meeting_long a b axis h (omega arith)))

-- all axes were written
pub made_meeting : (a b kept : List (ℕ × ℕ)) (axis : ℕ) → length a ≡ length b → length a ≤ axis → axis ≤ length a
    → take axis kept ≡ take axis (meeting a b) → take (length a) kept ≡ meeting a b
made_meeting a b kept axis e past within so_far =
    let end : length a ≡ axis = omega arith in
    ap (λ n. take n kept) end ∙ so_far ∙ take_all axis (meeting a b) (omega (arith, length-meeting a b e))
