use Rattle.std.proofs.Common.{◌≡◌, ◌+◌, ◌∙◌, slice_get}
use Rattle.lg_space.specs.Rectangle.{indices, place_in}
use Rattle.lg_space.proofs.Next.{found_inside, found_below}
use Rattle.lg_space.proofs.rect.AnyRect.next.Goals as goal
use Rattle.lg_space.proofs.rect.AnyRect.next.Goals.{After-next}

-- what the ranges and the coordinates give is that of the rectangle and the point
found : (c : After-next) → c.next.result ≡ slice_get (indices c.args.self.now) (place_in c.args.self.now c.args.p.now + 1)
found c =
    let ranges = c.ranges-2.ensures.value in
    let index = c.coordinates.ensures.value in
    c.next.ensures ∙ (λ i. slice_get (indices (ranges i)) (place_in (ranges i) (index i) + 1))

pub returns-clause-inside : goal.returns-clause-inside
returns-clause-inside c = found_inside c.args.self.now _ c.next.result (found (goal.at.returns-clause-inside c).After-next)

pub returns-clause-last : goal.returns-clause-last
returns-clause-last c = found_below c.args.self.now _ c.next.result (found (goal.at.returns-clause-last c).After-next)
