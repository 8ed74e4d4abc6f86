-- A view of the code, as the definitions see it.
use Rattle.lg_store.specs.declared.view.View.{View as CodeView}
use Rattle.lg_xform.specs.Chains.{layout_of}
use Rattle.lg_meaning.specs.Memory.{View}
use Rattle.lg_operations.specs.Operations.{right_for}

-- the places of a view are those of its chain
abbrev pub view_of : CodeView → View
view_of view = record {
  root = view.root;
  kind = record {
    dtype = view.dtype;
    shape = (layout_of view.chain).shape;
    right = right_for view.right;
  };
  places = (layout_of view.chain).places;
}
