-- A cell's data copied to an output, one law for each way out. Assumes nothing.
use Prim.Native.Nat.{ℕ, ◌<◌, ◌≤◌}
use mathlib.Core.Path.{◌≡◌, refl, sym, ap, ◌∙◌}
use mathlib.Core.List.{List, [], ◌∷◌}
use native.Mathlib.Omega.{arith}
use lib.ListN.{length}
use borrow.Author.Tests.{le-leb, lt-leb}
use Rattle.std.specs.Prelude.{Ok, Err}
use Rattle.scheme.specs.Refusals.{NOROOM}
use Rattle.scheme.specs.Res.{Res, mapped, refusal}
use Rattle.scheme.specs.declared.Refusal.{Refusal}
use Rattle.scheme.specs.Cells.{Cell}
use Rattle.scheme.specs.Memory.{row_of}
use Rattle.scheme.specs.Calls.{asking, data_of}
use Rattle.laws.specs.Puts.{puts, puts-start}
use Rattle.store.specs.Paper.{head_numbers}
use Rattle.store.specs.declared.CellHead.{CellHead}
use Rattle.tapunerow.specs.Outcomes.{copy_out, data_in, copying}
use Rattle.tapunerow.specs.Promises.{Copies}

-- what `cell` answers says whether the cell is held
module _ (x : Res Cell) (r : Res CellHead) (e : mapped head_numbers r ≡ mapped (row_of []) x) where
  pub asked-refused : (s : Refusal) → r ≡ Err s → x ≡ Err s
  asked-refused s p = go x (ap (λ (q : Res CellHead). mapped head_numbers q) (sym p) ∙ e)
    where
      go : (y : Res Cell) → ◌≡◌ {A = Res (List ℕ)} (Err s) (mapped (row_of []) y) → y ≡ Err s
      go (Err q) f = cc
      go (Ok c) f = cc

  pub asked-held : (h : CellHead) → r ≡ Ok h → (s : Refusal) → x ≡ Err s → ⊥
  asked-held h p s q =
      let f : ◌≡◌ {A = Res (List ℕ)} (Ok (head_numbers h)) (Err s) = ap (λ (q : Res CellHead). mapped head_numbers q) (sym p) ∙ e ∙ ap (λ (y : Res Cell). mapped (row_of []) y) q in
      cc

-- a refusal has no data
pub some-held : (x : Res Cell) (own : List ℕ) → own ≡ data_of x → (length own ≡ 0 → ⊥) → (s : Refusal) → x ≡ Err s → ⊥
some-held x own p some s e = some (ap length (p ∙ ap (λ (y : Res Cell). data_of y) e))

module _ (n : ℕ) (t d : List ℕ) (i : ℕ) (o : List ℕ) where
  -- once it is known what the copy comes to
  copy_is : (x : Res (List ℕ)) → data_in (length o) (asking n t d i) ≡ x → Copies n t d i o (copy_out o x).answer (copy_out o x).out
  unfolding copying
  copy_is x e = record {
    answer = ap (λ (y : Res (List ℕ)). (copy_out o y).answer) (sym e);
    out = ap (λ (y : Res (List ℕ)). (copy_out o y).out) (sym e);
  }

  pub copy_refused : (s : Refusal) → asking n t d i ≡ Err s → Copies n t d i o (Err s) o
  copy_refused s e = copy_is (Err s) (rw e)

  module _ (own : List ℕ) (p : own ≡ data_of (asking n t d i)) where
    pub copy_over : length o < length own → Copies n t d i o (Err (refusal NOROOM (length own))) o
    copy_over h = go (asking n t d i) refl
      where
        go : (x : Res Cell) → asking n t d i ≡ x → Copies n t d i o (Err (refusal NOROOM (length own))) o
        go (Err r) e = let z = ap length (p ∙ ap (λ (y : Res Cell). data_of y) e) in absurd (omega arith)
        go (Ok c) e =
            let q : own ≡ c.bytes = p ∙ ap (λ (y : Res Cell). data_of y) e in
            let k : length o < length c.bytes = rw q at h in
            rw q (copy_is (Err (refusal NOROOM (length c.bytes))) (rw (e, lt-leb (length c.bytes) (length o) k)))

    pub copy_done : ((s : Refusal) → asking n t d i ≡ Err s → ⊥) → length own ≤ length o → (o' : List ℕ) → o' ≡ puts o 0 own
        → Copies n t d i o (Ok (length own)) o'
    copy_done held h o' w = go (asking n t d i) refl
      where
        go : (x : Res Cell) → asking n t d i ≡ x → Copies n t d i o (Ok (length own)) o'
        go (Err r) e = absurd (held r e)
        go (Ok c) e =
            let q : own ≡ c.bytes = p ∙ ap (λ (y : Res Cell). data_of y) e in
            let k : length c.bytes ≤ length o = rw q at h in
            rw (w ∙ puts-start o own h) (rw q (copy_is (Ok c.bytes) (rw (e, le-leb (length c.bytes) (length o) k))))
