-- The roots after one of them was written.
use Rattle.std.proofs.Common.{◌≡◌, ℕ, ◌<◌, List, length, map, Option, None, Some, IsSomeAnd, option_map, refl, ap, slice_get, ℤ}
use Rattle.std.proofs.lemmas.Option.{slice_get_within}
use Rattle.std.specs.Option.{unwrap_or}
use Rattle.std.specs.Vec.{with_item}
use Rattle.lg_tile.specs.Tiles.{dtype_of, numbers, rect_of}
use Rattle.lg_meaning.specs.Memory.{Root, View}
use Rattle.lg_session.specs.Puts.{Puts, Writes}
use Rattle.lg_session.specs.Roots.{contents, root_of}
use Rattle.lg_session.specs.declared.roots.Roots.{Roots}
use Rattle.lg_session.specs.declared.roots.WholeTile.{WholeTile}
use Rattle.lg_session.proofs.Writes.{slice_get-set_same, slice_get-set_other}

-- the root of a slot
abbrev held_in : Option (Option WholeTile) → Option Root
held_in slot = option_map (λ (whole : WholeTile). root_of whole.tile) (unwrap_or slot None)

pub writes_at : (roots : Roots) (view : View) (old new : WholeTile) (values : List ℤ) → slice_get roots.tiles.items view.root ≡ Some (Some old) → dtype_of new.tile ≡ dtype_of old.tile
    → rect_of new.tile ≡ rect_of old.tile → Puts view.places values (numbers old.tile) (numbers new.tile)
    → Writes (contents roots) (contents (record roots { tiles = with_item roots.tiles view.root (Some new) })) view values
writes_at roots view old new values at dtype rect puts = record {
  old = root_of old.tile;
  new = root_of new.tile;
  was = ap held_in at;
  now = ap held_in (slice_get-set_same roots.tiles.items view.root (Some old) (Some new) at);
  dtype = dtype;
  shape = ap (map (λ (range : ℕ × ℕ). range.1)) rect;
  puts = puts;
  others = λ other apart. ap held_in (slice_get-set_other roots.tiles.items view.root other (Some new) apart);
}

-- a root that is there has a slot
pub held_below : (roots : Roots) (root : ℕ) (P : Root → Type 0) → IsSomeAnd (contents roots root) P → root < length roots.tiles.items
held_below roots root P held = by (slice_get roots.tiles.items root) refl held
  where
    by : (slot : Option (Option WholeTile)) → slice_get roots.tiles.items root ≡ slot → IsSomeAnd (held_in slot) P → root < length roots.tiles.items
    by None is h = absurd h
    by (Some slot) is h = slice_get_within roots.tiles.items root slot is
