-- The text of a number as the gate's programs write it.
use Rattle.std.specs.Prelude.{ℕ, false, List, [], ◌∷◌, ◌-◌, ◌^◌}
use Rattle.std.specs.Fmt.{decimal, digits, padded_integral, format_spec}

-- a number behind a space
abbrev pub spaced : ℕ → List ℕ
spaced n = 32 ∷ decimal n

-- a number in lower-case hexadecimal, with zeros in front up to so many digits
abbrev pub hex : ℕ → ℕ → List ℕ
hex width n = padded_integral (format_spec 32 0 4 width (2 ^ 64 - 1)) false [] (digits 16 false n)
