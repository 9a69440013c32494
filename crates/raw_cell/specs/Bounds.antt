-- What a frame keeps to. Assumes nothing.
use Rattle.std.specs.Prelude.{ℕ, ◌+◌, ◌-◌, ◌*◌, ◌/◌, ◌%◌, ◌≤◌, ◌<◌, ◌≡◌, refl, Bool, true, false, not, cond, List, length, get_or, eqb, leb, Ok}
use Rattle.std.proofs.Common.{ap, arith, leb-true}
use Rattle.std.proofs.lemmas.Bool.{eqb-false}
use Rattle.laws.specs.Accept.{then_use, check_inv}
use Rattle.scheme.specs.Refusals.{REFS, PADDING}
use Rattle.scheme.specs.Res.{check, refusal}
use Rattle.scheme.specs.Bits.{bytes_for, zeros}
use Rattle.scheme.specs.Bag.{hashes}
use Rattle.bits.specs.Field.{byte_at, skip_at, skip_fields_at}
use Rattle.bits.specs.Laws.{skip-past, byte-is, skip-fields-end}
use Rattle.raw_cell.specs.Frame.{bits_in, data_at, body_at, frame}
use Rattle.raw_cell.specs.declared.RawCell.{RawCell}

-- a frame f at place p of the bytes b
pub record Within (b : List ℕ) (size p : ℕ) (f : RawCell) : Type 0 where
  pub flag : f.exotic ≤ 1
  pub few : f.bits ≤ 1023
  pub arity : f.refs ≤ 4
  pub start : p + 2 ≤ f.body
  pub hashes-end : f.body ≤ p + 138
  -- the data ends where the references start, and these where the next cell does
  pub bytes : f.body + bytes_for f.bits ≤ f.links
  pub data_end : f.links ≤ f.body + 128
  pub refs_end : f.next ≡ f.links + f.refs * size
  pub inside : f.next ≤ length b

bits_in_lem : (odd : Bool) (p n last len : ℕ) → n ≤ 128 → (odd ≡ false → n ≤ 127) → bits_in odd p n last ≡ Ok len → (len ≤ 1023) × (bytes_for len ≤ n)
unfolding bits_in
bits_in_lem false p n last len h g e =
    let q : 8 * n ≡ len = cc in
    let k = g refl in
    (omega arith, omega arith)
bits_in_lem true p n last len h g e =
    then_use (check (not (eqb last 0)) (refusal PADDING p)) _ _ e λ u c e₁.
    let q : 8 * n - 1 - zeros 8 last ≡ len = cc in
    (omega arith, omega arith)

hashes-le : (d1 : ℕ) → hashes d1 ≤ 136
hashes-le d1 = go (eqb (d1 / 16 % 2) 1)
  where
    go : (t : Bool) → cond t (34 * (d1 / 32 % 2 + d1 / 64 % 2 + d1 / 128 % 2 + 1)) 0 ≤ 136
    go true = omega arith
    go false = omega arith

pub frame-within : (b : List ℕ) (size p : ℕ) (f : RawCell) → ((i : ℕ) → get_or b i 0 < 256) → frame b size p ≡ Ok f → Within b size p f
unfolding frame body_at data_at
frame-within b size p f small e =
    then_use (byte_at b p) _ _ e λ d1 x₁ e₁.
    then_use (check (leb (d1.0 % 8) 4) (refusal REFS p)) _ _ e₁ λ u₂ x₂ e₂.
    then_use (byte_at b d1.1) _ _ e₂ λ d2 x₃ e₃.
    then_use (skip_at b d2.1 (hashes d1.0)) _ _ e₃ λ body x₄ e₄.
    then_use (data_at b body d2.0) _ _ e₄ λ w x₅ e₅.
    then_use (skip_fields_at b size (d1.0 % 8) w.1) _ _ e₅ λ next x₆ e₆.
    then_use (skip_at b body ((d2.0 + 1) / 2)) _ _ x₅ λ q x₇ e₇.
    then_use (bits_in (eqb (d2.0 % 2) 1) body ((d2.0 + 1) / 2) (get_or b (q - 1) 0)) _ _ e₇ λ len x₈ e₈.
    let k₁ = byte-is b p d1 x₁ in
    let k₂ = leb-true (d1.0 % 8) 4 (check_inv (leb (d1.0 % 8) 4) (refusal REFS p) u₂ x₂) in
    let k₃ = byte-is b d1.1 d2 x₃ in
    let k₄ = skip-past b d2.1 (hashes d1.0) body x₄ in
    let k₆ = skip-fields-end b size (d1.0 % 8) w.1 next x₆ in
    let k₇ = skip-past b body ((d2.0 + 1) / 2) q x₇ in
    let low : d2.0 < 256 = omega (arith, small d1.1) in
    let k₈ = bits_in_lem (eqb (d2.0 % 2) 1) body ((d2.0 + 1) / 2) (get_or b (q - 1) 0) len (omega arith) (λ o. let z = eqb-false (d2.0 % 2) 1 o in omega arith) x₈ in
    let v : w ≡ (len, q) = cc in
    let v₁ : w.0 ≡ len = ap (λ (x : ℕ × ℕ). x.0) v in
    let v₂ : w.1 ≡ q = ap (λ (x : ℕ × ℕ). x.1) v in
    let r : f ≡ record { exotic = d1.0 / 8 % 2; refs = d1.0 % 8; bits = w.0; body = body; links = w.1; next = next } = cc in
    rw r (record {
      flag = omega arith;
      few = omega arith;
      arity = k₂;
      start = omega arith;
      hashes-end = omega (arith, hashes-le d1.0);
      bytes = rw (v₁, v₂) (omega arith);
      data_end = omega arith;
      refs_end = k₆.0;
      inside = rw k₆.0 (k₆.1 (omega arith));
    })
