-- What a call on a lent store comes to, by each test in its order: the store, the cell's number, the scratch. Assumes nothing.
use Rattle.std.specs.Prelude.{◌≡◌, true, false, List, ℕ, ◌*◌, ◌<◌, ◌≤◌, Ok, Err}
use borrow.Author.Tests.{lt-ltb, le-ltb, lt-leb, le-leb}
use Rattle.scheme.specs.Refusals.{STORE, NOCELL, SCRATCH}
use Rattle.scheme.specs.Res.{refusal}
use Rattle.scheme.specs.Memory.{sound, held, cells_of}
use Rattle.scheme.specs.Calls.{lent}
use Rattle.laws.specs.Records.{cells-length}

module _ (k n : ℕ) (t d : List ℕ) (i scratch : ℕ) where
  pub lent-store : sound n t d ≡ false → lent k n t d i scratch ≡ Err (refusal STORE 0)
  unfolding lent held
  lent-store e = rw e

  module _ (e : sound n t d ≡ true) where
    pub lent_nocell : n ≤ i → lent k n t d i scratch ≡ Err (refusal NOCELL 0)
    unfolding lent held
    lent_nocell h = rw (e, cells-length n t d, le-ltb i n h)

    module _ (h : i < n) where
      pub lent-scratch : scratch < k * n → lent k n t d i scratch ≡ Err (refusal SCRATCH (k * n))
      unfolding lent held
      lent-scratch l = rw (e, cells-length n t d, lt-ltb i n h, lt-leb (k * n) scratch l)

      pub lent-cells : k * n ≤ scratch → lent k n t d i scratch ≡ Ok (cells_of n t d)
      unfolding lent held
      lent-cells l = rw (e, cells-length n t d, lt-ltb i n h, le-leb (k * n) scratch l)
