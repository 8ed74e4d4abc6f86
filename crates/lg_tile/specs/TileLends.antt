-- What a tile ends as, where its elements are lent.
use Rattle.std.specs.Prelude.{List}
use Rattle.std.specs.Borrow.{Lends, Fml, RattleType, MutBor, Array}
use Rattle.std.specs.List.{length_refill}
use Rattle.std.specs.Vec as vec
use Rattle.std.proofs.Common.{sym, ◌∙◌}
use Rattle.lg_tile.specs.declared.tile.Tile.{Tile}
use Rattle.lg_tile.specs.contracts.tile.Tile.{the_row}

-- the tile with these elements. Where they are more or fewer they are cut, or filled up from the
-- tile's own, so that there are as many as before
abbrev pub with_items : {T : Type 0} → Tile T → List T → Tile T
with_items t xs = record t {
  items = vec.with_items t.items xs;
  full = sym (length_refill t.items.len t.items.items xs t.items.ok.0) ∙ t.items.ok.0 ∙ t.full;
}

-- the tile ends with the last elements behind r
abbrev pub lends_items : (T : RattleType) → MutBor (Tile T.Denot) → MutBor (List T.Denot) → Fml
lends_items T t r = Lends (the_row T) (Array T 0) t r (with_items t.now)
