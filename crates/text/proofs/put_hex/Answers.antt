use Prim.Native.Nat.{ℕ, ◌<◌, ◌+◌, ◌*◌, ◌/◌, ◌%◌}
use mathlib.Core.Path.{◌≡◌, refl, sym, ◌∙◌}
use mathlib.Core.List.{List, [], ◌∷◌}
use native.Mathlib.Omega.{arith}
use native.Mathlib.Numerals.{add-one}
use lib.ListN.{length, take, get_or, set, length-set, length-take}
use lib.Seq.{take-suc, take_all}
use Rattle.laws.specs.Puts.{puts, puts-nil, puts_then}
use Rattle.scheme.specs.Text.{hex, hex_digit}
use Rattle.text.proofs.Digits.{hex-length, hex-append, puts_2}
use Rattle.text.proofs.put_hex.Goals as goal

-- a turn: the two digits of byte i go behind those of the first i
turn : (src out₀ out : List ℕ) (at i to x y : ℕ) → i < length src → to ≡ at + 2 * i → out ≡ puts out₀ at (hex (take i src))
    → x ≡ hex_digit (get_or src i 0 / 16) → y ≡ hex_digit (get_or src i 0 % 16) → set (set out to x) (to + 1) y ≡ puts out₀ at (hex (take (i + 1) src))
unfolding hex
turn src out₀ out at i to x y h q e ex ey =
    let l : to ≡ at + length (hex (take i src)) = omega (arith, hex-length (take i src), length-take i src) in
    puts_then out₀ out (set (set out to x) (to + 1) y) at to (hex (take i src)) (x ∷ y ∷ []) e l (puts_2 out to x y)
    ∙ rw (add-one, take-suc src i 0 h, hex-append (take i src) (get_or src i 0 ∷ []), ex, ey)

pub loop-b-init : goal.loop-b-init
unfolding hex
loop-b-init c = (omega arith, sym (puts-nil _ _), refl)

pub bounds-out-to : goal.bounds-out-to
bounds-out-to c = omega (arith, hex-length c.args.src.now)

pub overflow_add-out : goal.overflow_add-out
overflow_add-out c = omega (arith, hex-length c.args.src.now, c.well_formed)

pub bounds-out-to-in-loop-b : goal.bounds-out-to-in-loop-b
bounds-out-to-in-loop-b c = simp length-set (omega (arith, hex-length c.args.src.now))

pub overflow_add-to : goal.overflow_add-to
overflow_add-to c = omega (arith, hex-length c.args.src.now, c.well_formed)

pub loop-b-preserved : goal.loop-b-preserved
loop-b-preserved c =
    let a = c.args in
    let l = c.loop-b in (
      omega arith,
      turn a.src.now a.out.now l.out a.at l.b-index l.to c.hex_digit.result c.hex_digit-in-loop-b.result (omega arith) (omega arith)
          l.invariant.1 c.hex_digit.ensures c.hex_digit-in-loop-b.ensures,
      simp length-set l.invariant.2,
    )

pub returns : goal.returns
returns c =
    let a = c.args in
    let l = c.loop-b in
    record { next = omega (arith, hex-length a.src.now); put = l.invariant.1 ∙ rw (take_all l.b-index a.src.now (omega arith)) refl }
