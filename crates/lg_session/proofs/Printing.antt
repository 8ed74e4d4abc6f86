-- The text of a list, member by member.
use Rattle.std.proofs.Common.{◌≡◌, ℕ, suc, zero, ◌+◌, ◌-◌, ◌*◌, ◌<◌, ◌≤◌, List, [], ◌∷◌, ◌++◌, length, map, take, drop, get_or, refl, sym, ap, ◌∙◌, append-nil, append_assoc, add-one, ℤ, pos, codes, arith, if◌then◌else◌, Result, Ok, Err}
use Rattle.std.specs.Result.{is_ok, OnOk}
use Rattle.std.proofs.lemmas.Bool.Decides.{nat_tests}
use Rattle.std.proofs.lemmas.List.{take-map, drop-map, length-drop, get_or-map}
use Rattle.lg_elem.specs.declared.dtype.DType.{DType}
use Rattle.lg_shape.specs.Shapes.{size_of}
use Rattle.lg_meaning.specs.Text.{separated, nested, rows, element_text}
use Rattle.lg_session.specs.Texts.{comma}

-- the members behind the first, each behind a comma and a blank
abbrev pub continued : List (List ℕ) → List ℕ
continued [] = []
continued (piece ∷ pieces) = codes ", " ++ (piece ++ continued pieces)

-- the members that are left after so many
abbrev pub left : ℕ → List (List ℕ) → List ℕ
left zero pieces = separated pieces
left (suc row) pieces = continued pieces

separated-cons : (piece : List ℕ) (pieces : List (List ℕ)) → separated (piece ∷ pieces) ≡ piece ++ continued pieces
separated-cons piece [] = sym (append-nil piece)
separated-cons piece (next ∷ pieces) = ap (λ l. piece ++ (codes ", " ++ l)) (separated-cons next pieces)

comma-more : (row : ℕ) → comma (suc row) ≡ codes ", "
comma-more row = grind (arith, nat_tests)

left-next : (row : ℕ) (pieces : List (List ℕ)) → left (row + 1) pieces ≡ continued pieces
left-next row pieces = rw add-one refl

left-none : (row : ℕ) → left row [] ≡ []
left-none zero = refl
left-none (suc row) = refl

left-cons : (row : ℕ) (piece : List ℕ) (pieces : List (List ℕ)) → left row (piece ∷ pieces) ≡ comma row ++ (piece ++ left (row + 1) pieces)
left-cons zero piece pieces = separated-cons piece pieces ∙ ap (λ l. piece ++ l) (sym (left-next zero pieces))
left-cons (suc row) piece pieces =
    ap (λ l. l ++ (piece ++ continued pieces)) (sym (comma-more row)) ∙ ap (λ l. comma (suc row) ++ (piece ++ l)) (sym (left-next (suc row) pieces))

rows-cons : (n m size : ℕ) (xs : List ℤ) → n ≡ suc m → rows n size xs ≡ take size xs ∷ rows m size (drop size xs)
rows-cons n m size xs e = ap (λ k. rows k size xs) e

-- one more row
pub row_more : {T : Type 0} (f : List ℤ → List ℕ) (number : T → ℤ) (rest : List T) (count row size : ℕ) (text middle after front : List ℕ) → row < count
    → text ++ left row (map f (rows (count - row) size (map number rest))) ≡ front → middle ≡ text ++ comma row
    → after ≡ middle ++ f (map number (take size rest))
    → after ++ left (row + 1) (map f (rows (count - (row + 1)) size (map number (drop size rest)))) ≡ front
row_more f number rest count row size text middle after front below before e1 e2 =
    let xs : List ℤ = map number rest in
    let pieces : List (List ℕ) = map f (rows (count - (row + 1)) size (drop size xs)) in
    let n : count - row ≡ suc (count - (row + 1)) = omega arith in
    let cut : left row (map f (rows (count - row) size xs)) ≡ comma row ++ (f (take size xs) ++ left (row + 1) pieces) =
    ap (λ l. left row (map f l)) (rows-cons (count - row) (count - (row + 1)) size xs n) ∙ left-cons row (f (take size xs)) pieces in
    ap (λ l. after ++ left (row + 1) (map f (rows (count - (row + 1)) size l))) (sym (drop-map number size rest))
    ∙ ap (λ l. l ++ left (row + 1) pieces) (e2 ∙ ap (λ l. l ++ f (map number (take size rest))) e1 ∙ ap (λ l. (text ++ comma row) ++ f l) (sym (take-map number size rest)))
    ∙ append_assoc (text ++ comma row) (f (take size xs)) (left (row + 1) pieces)
    ∙ append_assoc text (comma row) (f (take size xs) ++ left (row + 1) pieces)
    ∙ ap (λ l. text ++ l) (sym cut) ∙ before

-- no row is left
pub row_last : (f : List ℤ → List ℕ) (xs : List ℤ) (count row size : ℕ) (text front : List ℕ) → count ≤ row
    → text ++ left row (map f (rows (count - row) size xs)) ≡ front → text ≡ front
row_last f xs count row size text front past before =
    let none : count - row ≡ 0 = omega arith in
    sym (append-nil text) ∙ ap (λ l. text ++ l) (sym (left-none row)) ∙ ap (λ n. text ++ left row (map f (rows n size xs))) (sym none) ∙ before

-- how many elements are left
times_more : (n size : ℕ) → suc n * size ≡ size + n * size
times_more n size = grind arith

rows_left : (count row size len : ℕ) → row < count → len ≡ (count - row) * size → len ≡ size + (count - (row + 1)) * size
rows_left count row size len below is =
    let n : count - row ≡ suc (count - (row + 1)) = omega arith in
    is ∙ ap (λ k. k * size) n ∙ times_more (count - (row + 1)) size

pub row_within : (count row size len : ℕ) → row < count → len ≡ (count - row) * size → size ≤ len
row_within count row size len below is = let e : len ≡ size + (count - (row + 1)) * size = rows_left count row size len below is in omega arith

pub row_rest : {T : Type 0} (rest : List T) (count row size : ℕ) → row < count → length rest ≡ (count - row) * size → length (drop size rest) ≡ (count - (row + 1)) * size
row_rest rest count row size below is =
    let e : length rest ≡ size + (count - (row + 1)) * size = rows_left count row size (length rest) below is in omega (arith, length-drop size rest)

-- the brackets round the rows
pub list_closed : (t : DType) (extents inner : List ℕ) (count : ℕ) (xs : List ℤ) (old opened text closed : List ℕ) → extents ≡ count ∷ inner → opened ≡ old ++ codes "["
    → text ≡ opened ++ separated (map (nested t inner) (rows count (size_of inner) xs)) → closed ≡ text ++ codes "]" → closed ≡ old ++ nested t extents xs
list_closed t extents inner count xs old opened text closed e e1 e2 e3 =
    let members : List ℕ = separated (map (nested t inner) (rows count (size_of inner) xs)) in
    e3 ∙ ap (λ l. l ++ codes "]") (e2 ∙ ap (λ l. l ++ members) e1)
    ∙ append_assoc (old ++ codes "[") members (codes "]") ∙ append_assoc old (codes "[") (members ++ codes "]") ∙ ap (λ l. old ++ nested t l xs) (sym e)

-- the sizes at the start
pub size_split : (extents inner : List ℕ) (count len : ℕ) → extents ≡ count ∷ inner → len ≡ size_of extents → len ≡ (count - 0) * size_of inner
size_split extents inner count len e is = is ∙ ap size_of e

-- without axes there is one element
pub only_element : {T : Type 0} (t : DType) (number : T → ℤ) (extents : List ℕ) (items : List T) (x : T) → extents ≡ [] → length items ≡ size_of extents → x ≡ get_or items 0 x
    → element_text t (number x) ≡ nested t extents (map number items)
only_element t number extents items x none size is =
    let one : length items ≡ 1 = size ∙ ap size_of none in
    ap (element_text t) (ap number is ∙ sym (get_or-map number items 0 x (pos 0) (omega arith))) ∙ ap (λ l. nested t l (map number items)) (sym none)

-- how many elements each row has
pub row_size_is : (extents inner : List ℕ) (count row len size : ℕ) → extents ≡ count ∷ inner → len ≡ size_of extents → row < count
    → ((n : ℕ) → 0 < count → len ≡ count * n → size ≡ n) → size ≡ size_of inner
row_size_is extents inner count row len size e is below f =
    let some : 0 < count = omega arith in
    let all : count - 0 ≡ count = omega arith in
    f (size_of inner) some (size_split extents inner count len e is ∙ ap (λ n. n * size_of inner) all)

-- what was appended, if it was
pub appended : {T E : Type 0} (r : Result T E) (new text end : List ℕ) → new ≡ (if is_ok r then text ++ end else text) → OnOk r (new ≡ text ++ end)
appended (Ok x) new text end e = e
appended (Err x) new text end e = tt
