use Rattle.std.proofs.Common.{◌≡◌, ◌∙◌, ◌↔◌, List, ℕ, length, take, sym, subst, arith}
use Rattle.std.proofs.lemmas.List.{length-set}
use Rattle.lg_space.specs.Rectangle.{IsIn}
use Rattle.lg_space.specs.Stored.{IsStorable}
use Rattle.lg_space.proofs.Meeting.{meeting, meeting_more, storable-meeting, in-meeting, made_meeting}
use Rattle.lg_space.proofs.ranges.intersect.Goals as goal
use Rattle.lg_space.proofs.ranges.intersect.Goals.{After-loop-axis}

pub loop-axis-preserved : goal.loop-axis-preserved
loop-axis-preserved c = record {
  room = simp length-set c.loop-axis.invariant.room;
  so_far = meeting_more c.args.first.now c.args.second.now c.loop-axis.ranges c.loop-axis.axis c.common.result c.requires.axes
      c.loop-axis-test.true (omega (arith, c.requires.first.axes, c.loop-axis.invariant.room)) c.common.ensures c.loop-axis.invariant.so_far;
}

-- all axes are written
all : (c : After-loop-axis) → take (length c.args.first.now) c.loop-axis.ranges ≡ meeting c.args.first.now c.args.second.now
all c = made_meeting c.args.first.now c.args.second.now c.loop-axis.ranges c.loop-axis.axis c.requires.axes
    c.loop-axis-test.false c.loop-axis.auto.axis-end c.loop-axis.invariant.so_far

pub new-requires : goal.new-requires
new-requires c =
    subst IsStorable (sym (all (goal.at.new-requires c).After-loop-axis)) (storable-meeting c.args.first.now c.args.second.now c.requires.axes c.requires.first c.requires.second)

pub returns-clause-both : goal.returns-clause-both
returns-clause-both c index =
    let same = c.new.ensures ∙ all (goal.at.returns-clause-both c).After-loop-axis in
    subst (λ (r : List (ℕ × ℕ)). IsIn r index ↔ (IsIn c.args.first.now index × IsIn c.args.second.now index)) (sym same)
    (in-meeting c.args.first.now c.args.second.now index c.requires.axes)
