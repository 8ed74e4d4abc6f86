use Rattle.std.proofs.Common.{◌≡◌, map, take}
use Rattle.std.specs.List.{All}
use Rattle.lg_elem.specs.Operations.{value_of}
use Rattle.lg_elem.specs.Types.{IsNumber}
use Rattle.lg_divide.proofs.whole.each.Given as goal

abbrev pub invariant-loop-i : goal.invariant-loop-i
invariant-loop-i g l = record {
  value : map g.T.Elem.number (take l.i l.out) ≡ map (λ a. value_of g.K.Kernel.kind g.T.Elem.DTYPE a (g.T.Elem.number l.other)) (map g.T.Elem.number (take l.i l.x));
  numbers : All (λ a. IsNumber g.T.Elem.DTYPE (g.T.Elem.number a)) (take l.i l.x);
}
