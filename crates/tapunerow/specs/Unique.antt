-- Two outcomes that meet a function's contract are equal. Assumes nothing.
use Rattle.std.specs.Prelude.{ℕ, ◌≡◌, List}
use Rattle.scheme.specs.Crc.{crc_of}
use Rattle.laws.specs.OneAnswer.{one-content}
use Rattle.tapunerow.specs.Promises.{WireClears, WireAdds, WireAsks, WireCopies, WireReads, WireWrites, WireMeasures, WirePrints}

module _ (n : ℕ) (t d : List ℕ) where
  pub one-clear : (r₁ r₂ n₁ n₂ : ℕ) (t₁ t₂ d₁ d₂ a₁ a₂ : List ℕ) → WireClears n t d r₁ n₁ t₁ d₁ a₁ → WireClears n t d r₂ n₂ t₂ d₂ a₂
      → (r₁ ≡ r₂) × (n₁ ≡ n₂) × (t₁ ≡ t₂) × (d₁ ≡ d₂) × (a₁ ≡ a₂)
  one-clear r₁ r₂ n₁ n₂ t₁ t₂ d₁ d₂ a₁ a₂ p q =
      (one-content p.number q.number, one-content p.count q.count, one-content p.table q.table, one-content p.bytes q.bytes, one-content p.entries q.entries)

  pub one-add : (flag bits : ℕ) (own refs : List ℕ) (r₁ r₂ n₁ n₂ : ℕ) (t₁ t₂ d₁ d₂ a₁ a₂ : List ℕ)
      → WireAdds n t d flag bits own refs r₁ n₁ t₁ d₁ a₁ → WireAdds n t d flag bits own refs r₂ n₂ t₂ d₂ a₂
      → (r₁ ≡ r₂) × (n₁ ≡ n₂) × (t₁ ≡ t₂) × (d₁ ≡ d₂) × (a₁ ≡ a₂)
  one-add flag bits own refs r₁ r₂ n₁ n₂ t₁ t₂ d₁ d₂ a₁ a₂ p q =
      (one-content p.number q.number, one-content p.count q.count, one-content p.table q.table, one-content p.bytes q.bytes, one-content p.entries q.entries)

  pub one_cell : (i r₁ r₂ : ℕ) (a₁ a₂ : List ℕ) → WireAsks n t d i r₁ a₁ → WireAsks n t d i r₂ a₂ → (r₁ ≡ r₂) × (a₁ ≡ a₂)
  one_cell i r₁ r₂ a₁ a₂ p q = (one-content p.number q.number, one-content p.entries q.entries)

  pub one-cell_data : (i : ℕ) (o : List ℕ) (r₁ r₂ : ℕ) (o₁ o₂ a₁ a₂ : List ℕ)
      → WireCopies n t d i o r₁ o₁ a₁ → WireCopies n t d i o r₂ o₂ a₂
      → (r₁ ≡ r₂) × (o₁ ≡ o₂) × (a₁ ≡ a₂)
  one-cell_data i o r₁ r₂ o₁ o₂ a₁ a₂ p q = (one-content p.number q.number, one-content p.out q.out, one-content p.entries q.entries)

  pub one-read : (whole : ℕ) (s rs reply : List ℕ) (r₁ r₂ n₁ n₂ : ℕ) (t₁ t₂ d₁ d₂ s₁ s₂ rs₁ rs₂ a₁ a₂ : List ℕ)
      → WireReads whole n t d s rs reply r₁ n₁ t₁ d₁ s₁ rs₁ a₁ → WireReads whole n t d s rs reply r₂ n₂ t₂ d₂ s₂ rs₂ a₂
      → (r₁ ≡ r₂) × (n₁ ≡ n₂) × (t₁ ≡ t₂) × (d₁ ≡ d₂) × (s₁ ≡ s₂) × (rs₁ ≡ rs₂) × (a₁ ≡ a₂)
  one-read whole s rs reply r₁ r₂ n₁ n₂ t₁ t₂ d₁ d₂ s₁ s₂ rs₁ rs₂ a₁ a₂ p q = (
    one-content p.number q.number,
    one-content p.count q.count,
    one-content p.table q.table,
    one-content p.bytes q.bytes,
    one-content p.scratch q.scratch,
    one-content p.roots q.roots,
    one-content p.entries q.entries,
  )

  pub one-write : (idx crc i : ℕ) (s o : List ℕ) (r₁ r₂ : ℕ) (s₁ s₂ o₁ o₂ a₁ a₂ : List ℕ)
      → WireWrites idx crc n t d i s o r₁ s₁ o₁ a₁ → WireWrites idx crc n t d i s o r₂ s₂ o₂ a₂
      → (r₁ ≡ r₂) × (s₁ ≡ s₂) × (o₁ ≡ o₂) × (a₁ ≡ a₂)
  one-write idx crc i s o r₁ r₂ s₁ s₂ o₁ o₂ a₁ a₂ p q =
      (one-content p.number q.number, one-content p.scratch q.scratch, one-content p.out q.out, one-content p.entries q.entries)

  pub one-depth : (i : ℕ) (s : List ℕ) (r₁ r₂ : ℕ) (s₁ s₂ a₁ a₂ : List ℕ)
      → WireMeasures n t d i s r₁ s₁ a₁ → WireMeasures n t d i s r₂ s₂ a₂
      → (r₁ ≡ r₂) × (s₁ ≡ s₂) × (a₁ ≡ a₂)
  one-depth i s r₁ r₂ s₁ s₂ a₁ a₂ p q = (one-content p.number q.number, one-content p.scratch q.scratch, one-content p.entries q.entries)

  pub one-text : (i budget : ℕ) (s o : List ℕ) (r₁ r₂ : ℕ) (s₁ s₂ o₁ o₂ a₁ a₂ : List ℕ)
      → WirePrints n t d i budget s o r₁ s₁ o₁ a₁ → WirePrints n t d i budget s o r₂ s₂ o₂ a₂
      → (r₁ ≡ r₂) × (s₁ ≡ s₂) × (o₁ ≡ o₂) × (a₁ ≡ a₂)
  one-text i budget s o r₁ r₂ s₁ s₂ o₁ o₂ a₁ a₂ p q =
      (one-content p.number q.number, one-content p.scratch q.scratch, one-content p.out q.out, one-content p.entries q.entries)

pub one_crc32c : (bs : List ℕ) (r s : ℕ) → r ≡ crc_of bs → s ≡ crc_of bs → r ≡ s
one_crc32c bs r s p q = one-content p q
