-- Two outcomes that keep a function's promise are equal: an instance of one law for each public function. Assumes nothing.
use Rattle.std.specs.Prelude.{◌≡◌, Bool, ℕ, List, min, ltb, length, get_or, set}
use Rattle.scheme.specs.Res.{Res}
use Rattle.laws.specs.OneAnswer.{one-content, one-pair}
use Rattle.records.specs.declared.CellRecord.{CellRecord}
use Rattle.records.specs.Record.{blank, room_for, export_recs, import_recs}
use Rattle.records.specs.Answers.{read_of, added_of}

-- the answer x, and what the lent table holds afterwards, y
abbrev Both : {A B : Type 0} → A → B → A → B → Type 0
Both x y a c = (a ≡ x) × (c ≡ y)

module _ (ys : List CellRecord) (n count : ℕ) (r : CellRecord) where
  pub one-count : (a b : ℕ) → a ≡ length ys → b ≡ length ys → a ≡ b
  one-count a b p q = one-content p q

  pub one_record : (a b : CellRecord) → a ≡ get_or ys n r → b ≡ get_or ys n r → a ≡ b
  one_record a b p q = one-content p q

  -- what reading a record answers by the rules, and what appending one does
  abbrev reads : Res CellRecord
  reads = read_of n (min count (length ys)) (get_or ys n blank)

  abbrev adds : Res ℕ
  adds = added_of (ltb count (length ys)) count

  pub one-read : (a b : Res CellRecord) → a ≡ reads → b ≡ reads → a ≡ b
  one-read a b p q = one-content p q

  pub one_store : (a b : Bool) (ys₁ ys₂ : List CellRecord) → Both (ltb n (length ys)) (set ys n r) a ys₁ → Both (ltb n (length ys)) (set ys n r) b ys₂
      → (a ≡ b) × (ys₁ ≡ ys₂)
  one_store a b ys₁ ys₂ p q = one-pair p q

  pub one-append : (a b : Res ℕ) (ys₁ ys₂ : List CellRecord) → (a ≡ adds) × (ys₁ ≡ set ys count r)
      → (b ≡ adds) × (ys₂ ≡ set ys count r) → (a ≡ b) × (ys₁ ≡ ys₂)
  one-append a b ys₁ ys₂ p q = one-pair p q

module _ (xs : List ℕ) (ys : List CellRecord) (n : ℕ) where
  abbrev room : ℕ
  room = room_for (length xs) (length ys) n

  pub one_export : (a b : ℕ) (ys₁ ys₂ : List CellRecord) → Both room (export_recs xs room ys) a ys₁ → Both room (export_recs xs room ys) b ys₂
      → (a ≡ b) × (ys₁ ≡ ys₂)
  one_export a b ys₁ ys₂ p q = one-pair p q

  pub one_import : (a b : ℕ) (xs₁ xs₂ : List ℕ) → Both room (import_recs ys room xs) a xs₁ → Both room (import_recs ys room xs) b xs₂ → (a ≡ b) × (xs₁ ≡ xs₂)
  one_import a b xs₁ xs₂ p q = one-pair p q
