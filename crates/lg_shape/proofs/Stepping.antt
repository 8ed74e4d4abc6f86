-- Several steps at once: by which index of the first view an index of the last one reads.
use Rattle.std.proofs.Common.{◌≡◌, ℕ, zero, suc, ◌+◌, ◌-◌, ◌*◌, ◌<◌, ◌≤◌, ◌⊎◌, List, [], ◌∷◌, ◌++◌, length, map, get_or, set, Some, pos, negsuc, slice_get, refl, sym, ap, ◌∙◌, inl, inr, arith}
use Rattle.std.specs.List.{insert, remove}
use Rattle.std.proofs.lemmas.List.{length-map, ext_get_or}
use Rattle.std.proofs.lemmas.Nat.{mul-le}
use Rattle.std.proofs.lemmas.Option.{slice_get-map, slice_get-get_or, get_or_from_slice_get}
use Rattle.std.specs.Option.{option_map}
use Rattle.lg_space.specs.Rectangle.{IsIn}
use Rattle.lg_space.specs.Stored.{MAX_END}
use Rattle.lg_space.proofs.Places.{stands_at_place, stands_once, volume_counts}
use Rattle.lg_shape.specs.Shapes.{size_of, whole, places, place_of}
use Rattle.lg_shape.specs.Views.{shape_after, index_before, all_stepped, IsStepOf}
use Rattle.lg_shape.specs.declared.step.Step.{Step}
use Rattle.lg_shape.specs.declared.step.Step.TheVariants.{Promote, Project, Slice, Transpose, Delinearize}

-- the index of the first view
abbrev pub through : List Step → List ℕ → List ℕ
through [] index = index
through (step ∷ steps) index = index_before step (through steps index)

-- the shape of the last view
abbrev pub shapes_after : List Step → List ℕ → List ℕ
shapes_after [] shape = shape
shapes_after (step ∷ steps) shape = shapes_after steps (shape_after step shape)

-- the steps that an index is made of
abbrev pub IsPlain : Step → Type 0
IsPlain (Promote axis extent) = Unit {0}
IsPlain (Project axis at) = Unit {0}
IsPlain (Slice axis start len (pos step)) = Unit {0}
IsPlain (Slice axis start len (negsuc step)) = ⊥
IsPlain (Transpose axes) = ⊥
IsPlain (Delinearize sizes) = ⊥

-- ---- one step takes an index of the view after it to one of the view before it

in_project : (axis at : ℕ) (shape index : List ℕ) → axis < length shape → at < get_or shape axis 0
    → IsIn (whole (remove shape axis)) index → IsIn (whole shape) (insert index axis at)
in_project axis at [] index lt below h = absurd (omega arith)
in_project zero at (extent ∷ shape) index lt below h = (omega arith, below, h)
in_project (suc axis) at (extent ∷ shape) [] lt below h = absurd h
in_project (suc axis) at (extent ∷ shape) (i ∷ index) lt below h =
    (h.0, h.1, in_project axis at shape index (omega arith) below h.2)

in_promote : (axis extent : ℕ) (shape index : List ℕ) → axis ≤ length shape
    → IsIn (whole (insert shape axis extent)) index → IsIn (whole shape) (remove index axis)
in_promote zero extent shape [] le h = absurd h
in_promote zero extent shape (i ∷ index) le h = h.2
in_promote (suc axis) extent [] index le h = absurd (omega arith)
in_promote (suc axis) extent (e ∷ shape) [] le h = absurd h
in_promote (suc axis) extent (e ∷ shape) (i ∷ index) le h =
    (h.0, h.1, in_promote axis extent shape index (omega arith) h.2)

below_slice : (start len step extent i : ℕ) → (len ≡ 0) ⊎ (start + (len - 1) * step < extent) → i < len → start + i * step < extent
below_slice start len step extent i (inl none) lt = absurd (omega arith)
below_slice start len step extent i (inr last) lt = omega (arith, mul-le i step (len - 1) step (omega arith) (omega arith))

in_slice : (axis start len step : ℕ) (shape index : List ℕ) → axis < length shape
    → (len ≡ 0) ⊎ (start + (len - 1) * step < get_or shape axis 0)
    → IsIn (whole (set shape axis len)) index → IsIn (whole shape) (set index axis (start + get_or index axis 0 * step))
in_slice axis start len step [] index lt last h = absurd (omega arith)
in_slice zero start len step (extent ∷ shape) [] lt last h = absurd h
in_slice zero start len step (extent ∷ shape) (i ∷ index) lt last h = (omega arith, below_slice start len step extent i last h.1, h.2)
in_slice (suc axis) start len step (extent ∷ shape) [] lt last h = absurd h
in_slice (suc axis) start len step (extent ∷ shape) (i ∷ index) lt last h =
    (h.0, h.1, in_slice axis start len step shape index (omega arith) last h.2)

pub in_before : (step : Step) (shape index : List ℕ) → IsPlain step → IsStepOf step shape
    → IsIn (whole (shape_after step shape)) index → IsIn (whole shape) (index_before step index)
in_before (Promote axis extent) shape index plain ok h = in_promote axis extent shape index ok h
in_before (Project axis at) shape index plain ok h = in_project axis at shape index ok.0 ok.1 h
in_before (Slice axis start len (pos step)) shape index plain ok h = in_slice axis start len step shape index ok.0 ok.1.2 h
in_before (Slice axis start len (negsuc step)) shape index plain ok h = absurd plain
in_before (Transpose axes) shape index plain ok h = absurd plain
in_before (Delinearize sizes) shape index plain ok h = absurd plain

-- ---- steps in a row

-- so many axes at most, none of them too long
abbrev pub Small : ℕ → List ℕ → Type 0
Small m [] = Unit {0}
Small zero (extent ∷ shape) = ⊥
Small (suc m) (extent ∷ shape) = (extent ≤ MAX_END) × Small m shape

-- plain steps, each of which may be taken and leaves so many axes at most
abbrev pub Good : ℕ → List Step → List ℕ → Type 0
Good m [] shape = Unit {0}
Good m (step ∷ steps) shape =
    IsPlain step × IsStepOf step shape × Small m (shape_after step shape) × Good m steps (shape_after step shape)

pub in_through : (m : ℕ) (steps : List Step) (shape index : List ℕ) → Good m steps shape
    → IsIn (whole (shapes_after steps shape)) index → IsIn (whole shape) (through steps index)
in_through m [] shape index good h = h
in_through m (step ∷ steps) shape index good h =
    in_before step shape (through steps index) good.0 good.1 (in_through m steps (shape_after step shape) index good.3 h)

-- ---- views

-- two functions that agree on the members of a list
map_same : {X Y : Type 0} (f g : X → Y) (xs : List X) → ((k : ℕ) (x : X) → slice_get xs k ≡ Some x → f x ≡ g x) → map f xs ≡ map g xs
map_same f g [] same = refl
map_same f g (x ∷ xs) same = λ i. same 0 x refl i ∷ map_same f g xs (λ k y at. same (suc k) y at) i

-- a view reads at an index what was put there
place_at-map : (shape : List ℕ) (f : List ℕ → ℕ) (index : List ℕ) → IsIn (whole shape) index
    → get_or (map f (places shape)) (place_of shape index) 0 ≡ f index
place_at-map shape f index inside =
    get_or_from_slice_get (map f (places shape)) (place_of shape index) (f index) 0
    (slice_get-map f (places shape) (place_of shape index) ∙ ap (option_map f) (stands_at_place (whole shape) index inside))

-- and so all its places are what it reads
all_places : (shape ps : List ℕ) → length ps ≡ size_of shape
    → ps ≡ map (λ index. get_or ps (place_of shape index) 0) (places shape)
all_places shape ps e =
    let all = map (λ index. get_or ps (place_of shape index) 0) (places shape) in
    let size : length all ≡ size_of shape = length-map (places shape) (λ index. get_or ps (place_of shape index) 0) ∙ volume_counts (whole shape) in
    ext_get_or 0 ps all (e ∙ sym size) (λ k lt.
    (let within : k < length (places shape) = omega (arith, volume_counts (whole shape)) in
    let index = get_or (places shape) k [] in
    let there = slice_get-get_or (places shape) k [] within in
    let once = stands_once (whole shape) k index there in
    sym (get_or_from_slice_get all k (get_or ps k 0) 0
    (slice_get-map (λ i. get_or ps (place_of shape i) 0) (places shape) k ∙ ap (option_map (λ i. get_or ps (place_of shape i) 0)) there ∙ ap (λ n. Some (get_or ps n 0)) once.1))))

pub all_stepped_is : (m : ℕ) (steps : List Step) (shape ps : List ℕ) → Good m steps shape → length ps ≡ size_of shape
    → all_stepped steps (record { shape = shape; places = ps })
    ≡ record { shape = shapes_after steps shape; places = map (λ index. get_or ps (place_of shape (through steps index)) 0) (places (shapes_after steps shape)) }
all_stepped_is m [] shape ps good e = λ i. record { shape = shape; places = all_places shape ps e i }
all_stepped_is m (step ∷ steps) shape ps good e =
    let after = shape_after step shape in
    let f : List ℕ → ℕ = λ index. get_or ps (place_of shape (index_before step index)) 0 in
    let now = map f (places after) in
    let size : length now ≡ size_of after = length-map (places after) f ∙ volume_counts (whole after) in
    let final = shapes_after steps after in
    all_stepped_is m steps after now good.3 size
    ∙ (λ i. record {
      shape = final;
      places = map_same (λ index. get_or now (place_of after (through steps index)) 0) (λ index. f (through steps index)) (places final)
          (λ k index at. place_at-map after f (through steps index) (in_through m steps after index good.3 (stands_once (whole final) k index at).0)) i;
    })

-- ---- one list of steps behind another

pub through-append : (xs ys : List Step) (index : List ℕ) → through (xs ++ ys) index ≡ through xs (through ys index)
through-append [] ys index = refl
through-append (x ∷ xs) ys index = ap (index_before x) (through-append xs ys index)

pub shapes_after-append : (xs ys : List Step) (shape : List ℕ) → shapes_after (xs ++ ys) shape ≡ shapes_after ys (shapes_after xs shape)
shapes_after-append [] ys shape = refl
shapes_after-append (x ∷ xs) ys shape = shapes_after-append xs ys (shape_after x shape)

pub good-append : (m : ℕ) (xs ys : List Step) (shape : List ℕ) → Good m xs shape → Good m ys (shapes_after xs shape) → Good m (xs ++ ys) shape
good-append m [] ys shape first second = second
good-append m (x ∷ xs) ys shape first second = (first.0, first.1, first.2, good-append m xs ys (shape_after x shape) first.3 second)
