use Rattle.std.proofs.Common.{◌≡◌, ◌≤◌, ◌++◌, length, vec_items, vec_capacity}
use Rattle.text.proofs.Items.{wanted, onto, ahead, bytes_left}
use Rattle.text.proofs.lists.read_list.Given as goal

abbrev pub invariant-loop-left : goal.invariant-loop-left
invariant-loop-left g l = record {
  numbers : onto (vec_items l.initial.into) (wanted g.T.Number.kind l.initial.left) ≡ onto (vec_items l.into) (wanted g.T.Number.kind l.left);
  front : vec_items l.initial.into ++ ahead g.T.Number.kind l.initial.left ≡ vec_items l.into ++ ahead g.T.Number.kind l.left;
  more : length (vec_items l.initial.into) ≤ length (vec_items l.into);
  room : vec_capacity l.initial.into ≤ vec_capacity l.into;
}

abbrev pub decreases-loop-left : goal.decreases-loop-left
decreases-loop-left g l = bytes_left l.left
