-- What a field that is there answers. Assumes nothing.
use Rattle.std.specs.Prelude.{ℕ, ◌+◌, ◌≤◌, ◌≡◌, List, length, Ok, Err}
use Rattle.std.proofs.Common.{sym, ap, ◌∙◌, arith}
use Rattle.scheme.specs.Res.{Res}
use Rattle.scheme.specs.declared.Refusal.{Refusal}
use Rattle.bits.specs.Field.{field_at, number_at}
use Rattle.bits.specs.Laws.{field-few}

ok_inj : (x y : ℕ × ℕ) → ◌≡◌ {A = Res (ℕ × ℕ)} (Ok x) (Ok y) → x ≡ y
ok_inj x y e = cc

module _ (b : List ℕ) (p n : ℕ) (few : n ≤ 4) (room : p + n ≤ length b) where
  whole : field_at b p n ≡ Ok (number_at b n p, p + n)
  whole = field-few b p n room (omega arith)

  -- it is not refused
  pub field-there : {A : Type 0} (r : Refusal) → field_at b p n ≡ Err r → A
  field-there r e =
      let q : ◌≡◌ {A = Res (ℕ × ℕ)} (Err r) (Ok (number_at b n p, p + n)) = sym e ∙ whole in
      let z : ◌≡◌ {A = ℕ} 0 1 = cc in absurd (omega arith)

  -- it is the number of its bytes, and the place behind them
  pub field-it : (x : ℕ × ℕ) → field_at b p n ≡ Ok x → (x.0 ≡ number_at b n p) × (x.1 ≡ p + n)
  field-it x e =
      let q = ok_inj x (number_at b n p, p + n) (sym e ∙ whole) in
      (ap (λ (y : ℕ × ℕ). y.0) q, ap (λ (y : ℕ × ℕ). y.1) q)
