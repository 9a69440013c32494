-- Two outcomes that meet the contract of `order` for the same table, number of cells and root, in scratches of the same length that hold the listing, are
-- equal: the count, and every entry of the scratch. Assumes nothing.
use Rattle.std.specs.Prelude.{◌≡◌, refl, Bool, true, false, ◌⊎◌, ℕ, ◌+◌, ◌-◌, ◌*◌, ◌≤◌, ◌<◌, length, get_or, ltb}
use Rattle.std.proofs.Common.{sym, ap, ◌∙◌, inl, inr, arith, ext_get_or, ltb-true, ltb-false}
use mathlib.Core.List.{List, [], Memᴰ as Mem}
use Rattle.std.proofs.Math.Seq.{slice, length-slice}
use Rattle.scheme.specs.Write.{place_of}
use Rattle.laws.specs.OneAnswer.{one-content}
use Rattle.laws.specs.Slices.{slice_get}
use Rattle.laws.specs.Tests.{mem_dec}
use Rattle.order.specs.Queue.{Ordered}

module _ (t : List ℕ) (n root : ℕ) (s₁ s₂ : List ℕ) (m₁ m₂ : ℕ) (same : length s₁ ≡ length s₂) (h : 2 * n ≤ length s₁) where
  module _ (a : Ordered t n root s₁ m₁) (b : Ordered t n root s₂ m₂) where
    listing : slice n (n + m₁) s₁ ≡ slice n (n + m₂) s₂
    listing = one-content (a.listed []) (b.listed [])

    count : m₁ ≡ m₂
    count =
        let w₁ = a.within in
        let w₂ = b.within in
        let k = sym (length-slice n (n + m₁) s₁ (omega arith)) ∙ ap length listing ∙ length-slice n (n + m₂) s₂ (omega arith) in
        omega arith

    entries : (d : ℕ) → d < length s₁ → get_or s₁ d 0 ≡ get_or s₂ d 0
    entries d k = before (ltb d n) refl
      where
        -- where the places are
        place : n + m₁ ≤ d → 2 * n ≤ d → Mem (d - 2 * n) (slice n (n + m₁) s₁) ⊎ (Mem (d - 2 * n) (slice n (n + m₁) s₁) → ⊥) → get_or s₁ d 0 ≡ get_or s₂ d 0
        place f g (inl i) =
            let e : 2 * n + (d - 2 * n) ≡ d = omega arith in
            let y : get_or s₂ (2 * n + (d - 2 * n)) 0 ≡ place_of (d - 2 * n) (slice n (n + m₁) s₁) = rw listing (b.place (d - 2 * n) (rw listing at i)) in
            rw e at (one-content (a.place (d - 2 * n) i) y)
        place f g (inr o) =
            one-content (a.behind d f k (λ x i e. o (rw (gap x e) i)))
            (b.behind d (rw count at f) (rw same at k) (λ x i e. o (rw (gap x e, listing) i)))
          where
            gap : (x : ℕ) → d ≡ 2 * n + x → d - 2 * n ≡ x
            gap x e = omega arith

        behind : (c : Bool) → ltb d (2 * n) ≡ c → n + m₁ ≤ d → get_or s₁ d 0 ≡ get_or s₂ d 0
        behind true e f =
            let g = ltb-true d (2 * n) e in
            one-content (a.behind d f k (λ x i q. omega arith)) (b.behind d (rw count at f) (rw same at k) (λ x i q. omega arith))
        behind false e f = place f (ltb-false d (2 * n) e) (mem_dec (d - 2 * n) (slice n (n + m₁) s₁))

        among : (c : Bool) → ltb d (n + m₁) ≡ c → n ≤ d → get_or s₁ d 0 ≡ get_or s₂ d 0
        among true e f =
            let g = ltb-true d (n + m₁) e in
            let q : n + (d - n) ≡ d = omega arith in
            let x = slice_get n (n + m₁) (d - n) s₁ (omega arith) in
            let y = slice_get n (n + m₂) (d - n) s₂ (omega (arith, count)) in
            rw q at (sym x ∙ ap (λ (l : List ℕ). get_or l (d - n) 0) listing ∙ y)
        among false e f = behind (ltb d (2 * n)) refl (ltb-false d (n + m₁) e)

        before : (c : Bool) → ltb d n ≡ c → get_or s₁ d 0 ≡ get_or s₂ d 0
        before true e = one-content (a.before d (ltb-true d n e)) (b.before d (ltb-true d n e))
        before false e = among (ltb d (n + m₁)) refl (ltb-false d n e)

    pub one-order : (m₁ ≡ m₂) × (s₁ ≡ s₂)
    one-order = (count, ext_get_or 0 s₁ s₂ same entries)
