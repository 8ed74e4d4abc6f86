-- How the loop over the axes cuts them.
use Rattle.std.proofs.Common.{◌≡◌, ℕ, ◌+◌, ◌-◌, ◌*◌, ◌/◌, ◌<◌, ◌≤◌, max, Bool, true, false, List, [], ◌∷◌, ◌++◌, length, get_or, take, drop, set, map, All, refl, sym, ap, ◌∙◌, subst, arith}
use Rattle.std.specs.List.{range_with_len}
use Rattle.std.proofs.Math.Nat.{mul-div-le, div-one}
use Rattle.std.proofs.lemmas.Nat.{mul-le, le-div}
use Rattle.std.proofs.lemmas.List.{take_more, take_more_set, drop_more, append_assoc, length-take-le, length-set}
use Rattle.std.proofs.lemmas.List.Elements.{All-nil, All-cons, All-push, All-weaker}
use Rattle.std.proofs.Math.Seq.{take-length, drop-length}
use Rattle.std.proofs.lemmas.List.{append-nil, length-take}
use Rattle.lg_space.specs.Rectangle.{numbers_in, volume_of}
use Rattle.lg_space.specs.Stored.{MAX_END, MAX_VOLUME, IsStorable}
use Rattle.lg_shape.specs.Shapes.{size_of}
use Rattle.lg_shape.specs.Stored.{IsShape}
use Rattle.lg_shape.specs.Tiling.{ceiling, part_extent, part_count, part, axis_parts}
use Rattle.lg_shape.proofs.Parts.{IsCut, whole_cut, whole_parts, parts_cut, part_count_most, part_extent_most, ceiling_most}
use Rattle.lg_part.specs.Grids.{axes_of, IsCutAxis, IsCutShape, IsGrid}

-- ---- one axis

-- what holds of an axis that the rule cuts
pub record IsRuleCut (left extent : ℕ) (whole : Bool) (size count : ℕ) : Type 0 where
  pub cut : IsCutAxis extent size (0, count)
  pub count_most : count ≤ left
  pub left_some : 1 ≤ left / count
  pub left_most : count * (left / count) ≤ left
  pub rule : (shape : List ℕ) (whole_axes : List Bool) → axis_parts left (extent ∷ shape) (whole ∷ whole_axes) ≡ map (part extent size) (numbers_in (0, count)) ∷ axis_parts (left / count) shape whole_axes

is_cut : {extent size count : ℕ} → IsCut extent size count → size ≤ max extent 1 → IsCutAxis extent size (0, count)
is_cut {count = count} h most = record {
  from_0 = refl;
  some = h.some;
  size_some = h.size_some;
  size_most = most;
  reaches = h.reaches;
  begins = h.begins (count - 1) (omega (arith, h.some));
}

numbers_below : (count : ℕ) → numbers_in (0, count) ≡ range_with_len 0 count
numbers_below count = ap (range_with_len 0) (omega arith)

-- an axis that stays whole
whole_rule : (left extent : ℕ) → 1 ≤ left → IsRuleCut left extent true (max extent 1) 1
whole_rule left extent h =
    let all : left / 1 ≡ left = div-one left in
    record {
      cut = is_cut (whole_cut extent) (omega arith);
      count_most = h;
      left_some = omega arith;
      left_most = omega arith;
      rule = λ shape whole_axes.
          let here : map (part extent (max extent 1)) (numbers_in (0, 1)) ≡ (0, extent) ∷ [] = ap (map (part extent (max extent 1))) (numbers_below 1) ∙ whole_parts extent in
          λ i. sym here i ∷ axis_parts (sym all i) shape whole_axes;
    }

pub whole_axis : (left extent count : ℕ) → 1 ≤ left → count ≡ max 1 (ceiling extent (max extent 1)) → IsRuleCut left extent true (max extent 1) count
whole_axis left extent count h e =
    let one : count ≡ 1 = omega (arith, ceiling_most extent (max extent 1) 1 (omega arith) (omega arith)) in
    subst (IsRuleCut left extent true (max extent 1)) (sym one) (whole_rule left extent h)

-- an axis that is cut
pub cut_axis : (left extent : ℕ) → 1 ≤ left → IsRuleCut left extent false (part_extent left extent) (part_count left extent)
cut_axis left extent h =
    let size = part_extent left extent in
    let count = part_count left extent in
    let most = part_count_most left extent h in
    let some : 0 < count = omega arith in
    record {
      cut = is_cut (parts_cut left extent h) (part_extent_most left extent h);
      count_most = most;
      left_some = le-div 1 left count some (omega (arith, most));
      left_most = mul-div-le left count;
      rule = λ shape whole_axes. λ i. map (part extent size) (sym (numbers_below count) i) ∷ axis_parts (left / count) shape whole_axes;
    }

-- the same with the size that the loop chose
pub whole_chosen : (left extent : ℕ) (whole : Bool) (size count : ℕ) → 1 ≤ left → whole ≡ true → size ≡ max extent 1 → count ≡ max 1 (ceiling extent size) → IsRuleCut left extent whole size count
whole_chosen left extent whole size count h is_whole e f =
    rw (is_whole, e) (whole_axis left extent count h (f ∙ ap (λ n. max 1 (ceiling extent n)) e))

pub cut_chosen : (left extent : ℕ) (whole : Bool) (size count : ℕ) → 1 ≤ left → whole ≡ false → size ≡ part_extent left extent → count ≡ max 1 (ceiling extent size)
    → IsRuleCut left extent whole size count
cut_chosen left extent whole size count h is_cut e f =
    let g : count ≡ part_count left extent = f ∙ ap (λ n. max 1 (ceiling extent n)) e in
    rw (is_cut, e, g) (cut_axis left extent h)

-- ---- one axis more

axes_of-append : (shape sizes : List ℕ) (numbers : List (ℕ × ℕ)) (extent size : ℕ) (range : ℕ × ℕ) → length sizes ≡ length shape → IsCutShape shape sizes numbers
    → axes_of (shape ++ extent ∷ []) (sizes ++ size ∷ []) (numbers ++ range ∷ []) ≡ axes_of shape sizes numbers ++ map (part extent size) (numbers_in range) ∷ []
axes_of-append [] [] [] extent size range same h = refl
axes_of-append [] [] (r ∷ numbers) extent size range same h = absurd h
axes_of-append [] (s ∷ sizes) numbers extent size range same h = absurd (omega arith)
axes_of-append (e ∷ shape) [] numbers extent size range same h = absurd h
axes_of-append (e ∷ shape) (s ∷ sizes) [] extent size range same h = absurd h
axes_of-append (e ∷ shape) (s ∷ sizes) (r ∷ numbers) extent size range same h =
    ap (λ axes. map (part e s) (numbers_in r) ∷ axes) (axes_of-append shape sizes numbers extent size range (omega arith) h.1)

cut-append : (shape sizes : List ℕ) (numbers : List (ℕ × ℕ)) (extent size : ℕ) (range : ℕ × ℕ) → length sizes ≡ length shape → IsCutShape shape sizes numbers → IsCutAxis extent size range
    → IsCutShape (shape ++ extent ∷ []) (sizes ++ size ∷ []) (numbers ++ range ∷ [])
cut-append [] [] [] extent size range same h here = (here, tt)
cut-append [] [] (r ∷ numbers) extent size range same h here = absurd h
cut-append [] (s ∷ sizes) numbers extent size range same h here = absurd (omega arith)
cut-append (e ∷ shape) [] numbers extent size range same h here = absurd h
cut-append (e ∷ shape) (s ∷ sizes) [] extent size range same h here = absurd h
cut-append (e ∷ shape) (s ∷ sizes) (r ∷ numbers) extent size range same h here =
    (h.0, cut-append shape sizes numbers extent size range (omega arith) h.1 here)

volume_of-append : (numbers : List (ℕ × ℕ)) (range : ℕ × ℕ) → volume_of (numbers ++ range ∷ []) ≡ volume_of numbers * (range.1 - range.0)
volume_of-append [] range = omega arith
volume_of-append (r ∷ numbers) range = omega (arith, ap (λ n. (r.1 - r.0) * n) (volume_of-append numbers range))

-- there are no more parts than pieces
abbrev pub IsShort : ℕ → ℕ × ℕ → Type 0
IsShort pieces range = range.1 ≤ pieces

-- so many axes are cut, and so many pieces are left for the axes behind them
pub record IsCutSoFar (pieces : ℕ) (shape : List ℕ) (whole : List Bool) (axes : ℕ) (sizes : List ℕ) (numbers : List (ℕ × ℕ)) (left : ℕ) : Type 0 where
  pub some : 1 ≤ left
  pub most : left ≤ pieces
  pub sizes_long : length sizes ≡ 4
  pub numbers_long : length numbers ≡ 4
  pub rule : axes_of (take axes shape) (take axes sizes) (take axes numbers) ++ axis_parts left (drop axes shape) (drop axes whole) ≡ axis_parts pieces shape whole
  pub cut : IsCutShape (take axes shape) (take axes sizes) (take axes numbers)
  pub few : volume_of (take axes numbers) * left ≤ pieces
  pub short : All (IsShort pieces) (take axes numbers)

-- one more axis is cut
module _ (pieces : ℕ) (shape : List ℕ) (whole : List Bool) (axes : ℕ) (sizes : List ℕ) (numbers : List (ℕ × ℕ)) (left size count : ℕ)
    (so_far : IsCutSoFar pieces shape whole axes sizes numbers left) (below : axes < length shape) (few_axes : length shape ≤ 4) (known : length whole ≡ 4)
    (here : IsRuleCut left (get_or shape axes 0) (get_or whole axes false) size count)
  where
    same_length : length (take axes sizes) ≡ length (take axes shape)
    same_length =
        length-take-le axes sizes (omega (arith, so_far.sizes_long)) ∙ sym (length-take-le axes shape (omega arith))

    shape_more : take (axes + 1) shape ≡ take axes shape ++ get_or shape axes 0 ∷ []
    shape_more = take_more shape axes 0 below

    sizes_more : take (axes + 1) (set sizes axes size) ≡ take axes sizes ++ size ∷ []
    sizes_more = take_more_set sizes axes size (omega (arith, so_far.sizes_long))

    numbers_more : take (axes + 1) (set numbers axes (0, count)) ≡ take axes numbers ++ (0, count) ∷ []
    numbers_more = take_more_set numbers axes (0, count) (omega (arith, so_far.numbers_long))

    rule_more : axes_of (take (axes + 1) shape) (take (axes + 1) (set sizes axes size)) (take (axes + 1) (set numbers axes (0, count)))
        ++ axis_parts (left / count) (drop (axes + 1) shape) (drop (axes + 1) whole) ≡ axis_parts pieces shape whole
    rule_more =
        let rest = axis_parts (left / count) (drop (axes + 1) shape) (drop (axes + 1) whole) in
        let before = axes_of (take axes shape) (take axes sizes) (take axes numbers) in
        let one = map (part (get_or shape axes 0) size) (numbers_in (0, count)) in
        let whole_more : drop axes whole ≡ get_or whole axes false ∷ drop (axes + 1) whole = drop_more whole axes false (omega arith) in
        (λ i. axes_of (shape_more i) (sizes_more i) (numbers_more i) ++ rest)
        ∙ ap (λ xs. xs ++ rest) (axes_of-append (take axes shape) (take axes sizes) (take axes numbers) (get_or shape axes 0) size (0, count) same_length so_far.cut)
        ∙ append_assoc before (one ∷ []) rest
        ∙ ap (λ xs. before ++ xs) (sym (here.rule (drop (axes + 1) shape) (drop (axes + 1) whole)))
        ∙ (λ i. before ++ axis_parts left (sym (drop_more shape axes 0 below) i) (sym whole_more i))
        ∙ so_far.rule

    few_more : volume_of (take (axes + 1) (set numbers axes (0, count))) * (left / count) ≤ pieces
    few_more =
        let volume = volume_of (take axes numbers) in
        let e : volume_of (take (axes + 1) (set numbers axes (0, count))) ≡ volume * count =
        ap volume_of numbers_more ∙ volume_of-append (take axes numbers) (0, count) ∙ ap (volume *◌) (omega arith)
        in
        rw e (omega (arith, so_far.few, mul-le volume (count * (left / count)) volume left (omega arith) here.left_most))

    pub cut_more : IsCutSoFar pieces shape whole (axes + 1) (set sizes axes size) (set numbers axes (0, count)) (left / count)
    cut_more = record {
      some = here.left_some;
      most = omega (arith, so_far.most, mul-le 1 (left / count) count (left / count) here.cut.some (omega arith), here.left_most);
      sizes_long = length-set sizes axes size ∙ so_far.sizes_long;
      numbers_long = length-set numbers axes (0, count) ∙ so_far.numbers_long;
      rule = rule_more;
      cut = rw (shape_more, sizes_more, numbers_more) (cut-append (take axes shape) (take axes sizes) (take axes numbers) (get_or shape axes 0) size (0, count) same_length so_far.cut here.cut);
      few = few_more;
      short = rw numbers_more (All-push (IsShort pieces) (take axes numbers) (0, count) so_far.short (omega (arith, so_far.most, here.count_most)));
    }

-- ---- all axes are cut

axes_of-take : (shape sizes : List ℕ) (numbers : List (ℕ × ℕ)) → axes_of shape (take (length shape) sizes) numbers ≡ axes_of shape sizes numbers
axes_of-take [] sizes numbers = refl
axes_of-take (extent ∷ shape) [] numbers = refl
axes_of-take (extent ∷ shape) (size ∷ sizes) [] = refl
axes_of-take (extent ∷ shape) (size ∷ sizes) (range ∷ numbers) =
    ap (λ axes. map (part extent size) (numbers_in range) ∷ axes) (axes_of-take shape sizes numbers)

cut-take : (shape sizes : List ℕ) (numbers : List (ℕ × ℕ)) → IsCutShape shape (take (length shape) sizes) numbers → IsCutShape shape sizes numbers
cut-take [] sizes [] h = tt
cut-take [] sizes (range ∷ numbers) h = absurd h
cut-take (extent ∷ shape) [] numbers h = absurd h
cut-take (extent ∷ shape) (size ∷ sizes) [] h = absurd h
cut-take (extent ∷ shape) (size ∷ sizes) (range ∷ numbers) h = (h.0, cut-take shape sizes numbers h.1)

numbers_ordered : (shape sizes : List ℕ) (numbers : List (ℕ × ℕ)) → IsCutShape shape sizes numbers → All (λ (range : ℕ × ℕ). range.0 ≤ range.1) numbers
numbers_ordered [] sizes [] h = All-nil (λ (range : ℕ × ℕ). range.0 ≤ range.1)
numbers_ordered [] sizes (range ∷ numbers) h = absurd h
numbers_ordered (extent ∷ shape) [] numbers h = absurd h
numbers_ordered (extent ∷ shape) (size ∷ sizes) [] h = absurd h
numbers_ordered (extent ∷ shape) (size ∷ sizes) (range ∷ numbers) h =
    All-cons (λ (r : ℕ × ℕ). r.0 ≤ r.1) range numbers (omega (arith, h.0.from_0)) (numbers_ordered shape sizes numbers h.1)

pub at_last : (pieces : ℕ) (shape : List ℕ) (whole : List Bool) (axes : ℕ) (sizes : List ℕ) (numbers : List (ℕ × ℕ)) (left : ℕ) → IsCutSoFar pieces shape whole axes sizes numbers left
    → axes ≡ length shape → IsCutSoFar pieces shape whole (length shape) sizes numbers left
at_last pieces shape whole axes sizes numbers left h all = subst (λ n. IsCutSoFar pieces shape whole n sizes numbers left) all h

-- what a grid keeps then
module _ (pieces : ℕ) (shape : List ℕ) (whole : List Bool) (sizes : List ℕ) (numbers : List (ℕ × ℕ)) (left : ℕ) (h : IsCutSoFar pieces shape whole (length shape) sizes numbers left)
  where
    pub all_cut : IsCutShape shape sizes (take (length shape) numbers)
    all_cut =
        cut-take shape sizes (take (length shape) numbers) (subst (λ xs. IsCutShape xs (take (length shape) sizes) (take (length shape) numbers)) (take-length shape) h.cut)

    pub all_rule : axes_of shape sizes (take (length shape) numbers) ≡ axis_parts pieces shape whole
    all_rule =
        let colors = take (length shape) numbers in
        let nothing_left : axis_parts left (drop (length shape) shape) (drop (length shape) whole) ≡ [] = ap (λ xs. axis_parts left xs (drop (length shape) whole)) (drop-length shape) in
        sym (axes_of-take shape sizes colors)
        ∙ ap (λ xs. axes_of xs (take (length shape) sizes) colors) (sym (take-length shape))
        ∙ sym (append-nil (axes_of (take (length shape) shape) (take (length shape) sizes) colors))
        ∙ ap (λ xs. axes_of (take (length shape) shape) (take (length shape) sizes) colors ++ xs) (sym nothing_left)
        ∙ h.rule

    all_few : volume_of (take (length shape) numbers) ≤ pieces
    all_few =
        let volume = volume_of (take (length shape) numbers) in
        omega (arith, h.few, mul-le volume 1 volume left (omega arith) h.some)

    pub all_storable : IsShape shape → pieces ≤ 64 → IsStorable (take (length shape) numbers)
    all_storable few_axes few_pieces = record {
      axes = omega (arith, few_axes.axes, length-take (length shape) numbers);
      ordered = numbers_ordered shape sizes (take (length shape) numbers) all_cut;
      ends = All-weaker (IsShort pieces) (λ (range : ℕ × ℕ). range.1 ≤ MAX_END) (λ range most. omega arith) (take (length shape) numbers) h.short;
      volume = omega (arith, all_few);
    }

    pub all_kept : IsShape shape → pieces ≤ 64 → size_of shape ≤ MAX_VOLUME → IsGrid shape sizes (take (length shape) numbers)
    all_kept few_axes few_pieces small = record {
      few = few_axes.axes;
      cut = all_cut;
      small = small;
      few_tiles = omega (arith, all_few);
    }
