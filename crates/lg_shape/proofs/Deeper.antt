-- Steps behind some axes on which nothing changes.
use Rattle.std.proofs.Common.{◌≡◌, ℕ, zero, suc, ◌≤◌, List, [], ◌∷◌, ◌++◌, map, pos, negsuc, refl, sym, ap, subst, ◌∙◌, arith}
use Rattle.std.specs.List.{flat_map}
use Rattle.std.proofs.lemmas.List.{map-append, map-id}
use Rattle.lg_space.specs.Rectangle.{combinations, numbers_in}
use Rattle.lg_space.specs.Stored.{MAX_END}
use Rattle.lg_shape.specs.Shapes.{whole, places}
use Rattle.lg_shape.specs.Views.{shape_after, index_before, IsStepOf}
use Rattle.lg_shape.specs.declared.step.Step.{Step}
use Rattle.lg_shape.specs.declared.step.Step.TheVariants.{Promote, Project, Slice, Transpose, Delinearize}
use Rattle.lg_shape.proofs.Stepping.{through, shapes_after, IsPlain, Small, Good}

-- the step behind one more axis
abbrev pub deeper : Step → Step
deeper (Promote axis extent) = Promote (suc axis) extent
deeper (Project axis at) = Project (suc axis) at
deeper (Slice axis start len step) = Slice (suc axis) start len step
deeper (Transpose axes) = Transpose axes
deeper (Delinearize sizes) = Delinearize sizes

-- the steps behind some axes
abbrev pub behind : List ℕ → List Step → List Step
behind [] steps = steps
behind (extent ∷ front) steps = map deeper (behind front steps)

-- ---- one more axis

before-deeper : (step : Step) (i : ℕ) (index : List ℕ) → IsPlain step → index_before (deeper step) (i ∷ index) ≡ i ∷ index_before step index
before-deeper (Promote axis extent) i index plain = refl
before-deeper (Project axis at) i index plain = refl
before-deeper (Slice axis start len (pos step)) i index plain = refl
before-deeper (Slice axis start len (negsuc step)) i index plain = absurd plain
before-deeper (Transpose axes) i index plain = absurd plain
before-deeper (Delinearize sizes) i index plain = absurd plain

shape-deeper : (step : Step) (extent : ℕ) (shape : List ℕ) → IsPlain step → shape_after (deeper step) (extent ∷ shape) ≡ extent ∷ shape_after step shape
shape-deeper (Promote axis e) extent shape plain = refl
shape-deeper (Project axis at) extent shape plain = refl
shape-deeper (Slice axis start len (pos step)) extent shape plain = refl
shape-deeper (Slice axis start len (negsuc step)) extent shape plain = absurd plain
shape-deeper (Transpose axes) extent shape plain = absurd plain
shape-deeper (Delinearize sizes) extent shape plain = absurd plain

plain-deeper : (step : Step) → IsPlain step → IsPlain (deeper step)
plain-deeper (Promote axis extent) plain = tt
plain-deeper (Project axis at) plain = tt
plain-deeper (Slice axis start len (pos step)) plain = tt
plain-deeper (Slice axis start len (negsuc step)) plain = absurd plain
plain-deeper (Transpose axes) plain = absurd plain
plain-deeper (Delinearize sizes) plain = absurd plain

step_of-deeper : (step : Step) (extent : ℕ) (shape : List ℕ) → IsPlain step → IsStepOf step shape → IsStepOf (deeper step) (extent ∷ shape)
step_of-deeper (Promote axis e) extent shape plain ok = omega (arith, ok)
step_of-deeper (Project axis at) extent shape plain ok = (omega (arith, ok.0), ok.1)
step_of-deeper (Slice axis start len (pos step)) extent shape plain ok = (omega (arith, ok.0), ok.1)
step_of-deeper (Slice axis start len (negsuc step)) extent shape plain ok = absurd plain
step_of-deeper (Transpose axes) extent shape plain ok = absurd plain
step_of-deeper (Delinearize sizes) extent shape plain ok = absurd plain

abbrev pub AllPlain : List Step → Type 0
AllPlain [] = Unit {0}
AllPlain (step ∷ steps) = IsPlain step × AllPlain steps

pub through-deeper : (steps : List Step) (i : ℕ) (index : List ℕ) → AllPlain steps → through (map deeper steps) (i ∷ index) ≡ i ∷ through steps index
through-deeper [] i index plain = refl
through-deeper (step ∷ steps) i index plain =
    ap (index_before (deeper step)) (through-deeper steps i index plain.1) ∙ before-deeper step i (through steps index) plain.0

pub shapes-deeper : (steps : List Step) (extent : ℕ) (shape : List ℕ) → AllPlain steps → shapes_after (map deeper steps) (extent ∷ shape) ≡ extent ∷ shapes_after steps shape
shapes-deeper [] extent shape plain = refl
shapes-deeper (step ∷ steps) extent shape plain =
    ap (shapes_after (map deeper steps)) (shape-deeper step extent shape plain.0) ∙ shapes-deeper steps extent (shape_after step shape) plain.1

pub all_plain-deeper : (steps : List Step) → AllPlain steps → AllPlain (map deeper steps)
all_plain-deeper [] plain = tt
all_plain-deeper (step ∷ steps) plain = (plain-deeper step plain.0, all_plain-deeper steps plain.1)

pub good-deeper : (m : ℕ) (steps : List Step) (extent : ℕ) (shape : List ℕ) → extent ≤ MAX_END → Good m steps shape → Good (suc m) (map deeper steps) (extent ∷ shape)
good-deeper m [] extent shape small good = tt
good-deeper m (step ∷ steps) extent shape small good =
    let same = shape-deeper step extent shape good.0 in (
      plain-deeper step good.0,
      step_of-deeper step extent shape good.0 good.1,
      subst (Small (suc m)) (sym same) (small, good.2),
      subst (Good (suc m) (map deeper steps)) (sym same) (good-deeper m steps extent (shape_after step shape) small good.3),
    )

-- ---- combinations

-- what becomes of all combinations where the first member and the others change each for itself
pub product_mapped : (f : List ℕ → List ℕ) (h : ℕ → ℕ) (g : List ℕ → List ℕ) → ((i : ℕ) (rest : List ℕ) → f (i ∷ rest) ≡ h i ∷ g rest)
    → (others : List (List ℕ)) (firsts : List ℕ)
    → map f (flat_map (λ i. map (λ rest. i ∷ rest) others) firsts) ≡ flat_map (λ i. map (λ rest. i ∷ rest) (map g others)) (map h firsts)
product_mapped f h g step others [] = refl
product_mapped f h g step others (i ∷ firsts) =
    map-append f (map (λ rest. i ∷ rest) others) (flat_map (λ i. map (λ rest. i ∷ rest) others) firsts)
    ∙ ap (λ l. l ++ map f (flat_map (λ i. map (λ rest. i ∷ rest) others) firsts)) (one others)
    ∙ ap (λ l. map (λ rest. h i ∷ rest) (map g others) ++ l) (product_mapped f h g step others firsts)
  where
    one : (others : List (List ℕ)) → map f (map (λ rest. i ∷ rest) others) ≡ map (λ rest. h i ∷ rest) (map g others)
    one [] = refl
    one (rest ∷ others) = λ j. step i rest j ∷ one others j

-- ---- several axes

all_plain-behind : (front : List ℕ) (steps : List Step) → AllPlain steps → AllPlain (behind front steps)
all_plain-behind [] steps plain = plain
all_plain-behind (extent ∷ front) steps plain = all_plain-deeper (behind front steps) (all_plain-behind front steps plain)

pub shapes-behind : (front : List ℕ) (steps : List Step) (shape : List ℕ) → AllPlain steps → shapes_after (behind front steps) (front ++ shape) ≡ front ++ shapes_after steps shape
shapes-behind [] steps shape plain = refl
shapes-behind (extent ∷ front) steps shape plain =
    shapes-deeper (behind front steps) extent (front ++ shape) (all_plain-behind front steps plain) ∙ ap (λ l. extent ∷ l) (shapes-behind front steps shape plain)

pub good-behind : (front : List ℕ) (steps : List Step) (m : ℕ) (shape before : List ℕ) → Small m (front ++ before)
    → ((n : ℕ) → Small n before → Good n steps shape) → Good m (behind front steps) (front ++ shape)
good-behind [] steps m shape before small good = good m small
good-behind (extent ∷ front) steps zero shape before small good = absurd small
good-behind (extent ∷ front) steps (suc m) shape before small good =
    good-deeper m (behind front steps) extent (front ++ shape) small.0 (good-behind front steps m shape before small.1 good)

-- the members of the whole axes stay as they are
pub places-behind : (front : List ℕ) (steps : List Step) (shape : List ℕ) (choices : List (List ℕ)) → AllPlain steps
    → map (through steps) (places shape) ≡ combinations choices
    → map (through (behind front steps)) (places (front ++ shape)) ≡ combinations (map numbers_in (whole front) ++ choices)
places-behind [] steps shape choices plain same = same
places-behind (extent ∷ front) steps shape choices plain same =
    let numbers = numbers_in (0, extent) in
    product_mapped (through (map deeper (behind front steps))) (λ i. i) (through (behind front steps))
    (λ i rest. through-deeper (behind front steps) i rest (all_plain-behind front steps plain)) (places (front ++ shape)) numbers
    ∙ ap (λ l. flat_map (λ i. map (λ rest. i ∷ rest) (map (through (behind front steps)) (places (front ++ shape)))) l) (map-id numbers)
    ∙ ap (λ l. flat_map (λ i. map (λ rest. i ∷ rest) l) numbers) (places-behind front steps shape choices plain same)
