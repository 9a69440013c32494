-- `writer::put_be` meets its contract. Assumes nothing.
use mathlib.Core.Path.{◌≡◌, ap, ◌∙◌}
use Prim.Native.Nat.{ℕ, ◌-◌, ◌+◌}
use mathlib.Core.List.{List}
use lib.ListN.{length, take, drop}
use Rattle.scheme.specs.Bytes.{be}
use Rattle.laws.specs.Fields.{length-be}
use Rattle.laws.specs.Puts.{puts}
use Rattle.writer.proofs.Numbers.{be-last}
use Rattle.writer.proofs.put_be.Goals as goal

pub returns : goal.returns
returns c =
    let a = c.args in
    let e : take (8 - (8 - a.k)) (drop (8 - a.k) c.to_be_bytes-bytes.result) ≡ be a.k a.n = rw c.to_be_bytes-bytes.ensures (be-last 8 a.k a.n c.requires.k_bound) in
    (c.put.ensures.0 ∙ ap (λ (l : List ℕ). a.at + length l) e ∙ rw length-be, c.put.ensures.1 ∙ ap (puts a.out.now a.at) e)
