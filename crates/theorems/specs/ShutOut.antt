-- Programs that the theorems shut out. Each theorem is put as something that a definition may meet or not: the one that the code is proved against meets it,
-- and wrong ones, which answer every call as well, are proved not to, here or, where a theorem of proofs/ is cited, in proofs/ShutOut. Demands 2 and 3 are those of docs/DEMANDS.md.
-- Assumes nothing.
use Rattle.std.specs.Prelude.{◌≡◌, refl, ◌↔◌, ℕ, zero, suc, ◌≤◌, ◌<◌, Bool, true, false, ◌&&◌, List, [], ◌∷◌, ◌++◌, map, length, take, set, replicate, ltb, Ok, Err}
use Rattle.std.proofs.Common.{not-suc-le-zero, arith, ltb-true}
use mathlib.Core.List.Memᴰ.{head as here}
use mathlib.Core.List.Memᴰ.{tail as there}
use Rattle.scheme.specs.Refusals.{CUT}
use Rattle.scheme.specs.Limits.{max_cells}
use Rattle.scheme.specs.Res.{Res, then, refusal}
use Rattle.scheme.specs.Bytes.{chunk, field}
use Rattle.scheme.specs.Bits.{cropped}
use Rattle.scheme.specs.Cells.{Cell, blank, with, at, tree}
use Rattle.scheme.specs.Layout.{tag_ok, layout}
use Rattle.scheme.specs.Builder.{new_builder, cell_in}
use Rattle.scheme.specs.Bag.{Bag, header, numbers, root_list, index, bits, raw_cell, checksum, bag, Got, read}
use Rattle.scheme.specs.Order.{order_of}
use Rattle.scheme.specs.Write.{bag_cells, bag_bytes, write}
use Rattle.scheme.specs.Depth.{depth}
use Rattle.scheme.specs.Text.{tree_size, page}
use Rattle.scheme.specs.Memory.{cell_at, cells_of, sized, rows, blocks, lay_table, lay_bytes}
use Rattle.scheme.specs.Calls.{clearing, laid}
use Rattle.laws.specs.Tests.{and_left, and_right}
use Rattle.laws.specs.Unique.{Low}
use Rattle.laws.specs.Accept.{Small}
use Rattle.laws.specs.Add.{Typed}
use Rattle.laws.specs.CellRound.{Fit}
use Rattle.theorems.specs.Places.{cut_place, bag_fields}
use Rattle.theorems.specs.Meaning.{Means}
use Rattle.theorems.specs.Grammar.{Says}
use Rattle.theorems.specs.Accepts.{Fits}
use Rattle.theorems.specs.Writing.{Writes}
use Rattle.theorems.specs.Structure.{cells_in, same_text, same-depth}
use Rattle.theorems.specs.Histories.{Memory, cells, Call, clear, add-cell, read-bag, left, after, Reached, cleared, called, Demand3}

-- ---- the bytes of a bag

abbrev pub BagReader : Type 0
BagReader = Bool → ℕ → ℕ → List ℕ → Res Bag

-- cut replies: what the whole reading accepts is refused CUT in every shorter front
abbrev pub RefusesCut : BagReader → Type 0
RefusesCut reads =
    (scratch room : ℕ) (b : List ℕ) (g : Bag) → reads true scratch room b ≡ Ok g
    → (k : ℕ) → k < length b → (whole : Bool) → reads whole scratch room (take k b) ≡ Err (refusal CUT (cut_place 0 k (bag_fields b)))

-- demand 2: exactly the texts of the grammar are accepted, as the bags that they say
abbrev pub ReadsGrammar : BagReader → Type 0
ReadsGrammar reads = (whole : Bool) (scratch room : ℕ) (b : List ℕ) (g : Bag) → Small b → (reads whole scratch room b ≡ Ok g) ↔ Says whole scratch room b g

-- wrong: a byte past the end is taken for 0
abbrev pub zero_past : BagReader
zero_past whole scratch room b = bag false scratch room (b ++ 0 ∷ [])

-- wrong: byte 4 is taken for 1, so that no checksum is looked at
abbrev pub sum_ignored : BagReader
sum_ignored whole scratch room b = bag false scratch room (set b 4 1)

-- the definition
abbrev pub bag_reader : BagReader
bag_reader = bag

pub no : ¬ (◌≡◌ {A = ℕ} 0 1)
no e = omega arith

abbrev are_bytes : List ℕ → Bool
are_bytes [] = true
are_bytes (x ∷ xs) = ltb x 256 && are_bytes xs

pub are-small : (b : List ℕ) → are_bytes b ≡ true → Small b
are-small [] e y x3 = elim x3 [ ]
are-small (x ∷ xs) e y (here q) = rw q (ltb-true x 256 (and_left (ltb x 256) (are_bytes xs) e))
are-small (x ∷ xs) e y (there m) = are-small xs (and_right (ltb x 256) (are_bytes xs) e) y m

-- the bag of an empty cell, by its byte 4 and what follows
abbrev pub empty_bag : ℕ → List ℕ → List ℕ
empty_bag flags rest = 0xb5 ∷ 0xee ∷ 0x9c ∷ 0x72 ∷ flags ∷ 0x01 ∷ 0x01 ∷ 0x01 ∷ 0x00 ∷ 0x02 ∷ 0x00 ∷ 0x00 ∷ 0x00 ∷ rest

abbrev pub empty_read : Bag
empty_read = record { used = 13; cells = blank ∷ []; roots = 0 ∷ [] }

pub zero-past_shut_out : ¬ RefusesCut zero_past
unfolding bag header field chunk tag_ok layout root_list index numbers raw_cell bits checksum
zero-past_shut_out H =
    let b = empty_bag 0x01 [] in
    let e : zero_past true 2 1 (take 12 b) ≡ Ok empty_read = refl in
    let h = H 2 1 b empty_read refl 12 (omega arith) true in
    no cc

-- ---- reading into a store

abbrev pub Reader : Type 0
Reader = Bool → ℕ → ℕ → ℕ → List Cell → List ℕ → Res Got

-- demand 2: an accepted read means what the bag says
abbrev pub ReadMeans : Reader → Type 0
ReadMeans reads =
    (whole : Bool) (scratch room cap : ℕ) (s : List Cell) (b : List ℕ) (g : Got) → Low s → Small b → reads whole scratch room cap s b ≡ Ok g
    → (a : Bag) × (bag whole scratch room b ≡ Ok a) × Means s b a g

-- demand 2: exactly the texts of the grammar whose new cells have room are accepted
abbrev pub AcceptsTexts : Reader → Type 0
AcceptsTexts reads =
    (whole : Bool) (scratch room cap : ℕ) (s : List Cell) (b : List ℕ) → Small b
    → ((g : Got) × (reads whole scratch room cap s b ≡ Ok g)) ↔ Fits whole scratch room cap s b

-- wrong: every bag is refused
abbrev pub refuses_every : Reader
refuses_every whole scratch room cap s b = Err (refusal CUT 0)

-- the answer of the definition, altered
abbrev altered : (List Cell → Got → Got) → Reader
altered f whole scratch room cap s b = then (read whole scratch room cap s b) λ g. Ok (f s g)

-- wrong: number 0 always
abbrev pub zero_always : Reader
zero_always = altered λ s g. record { counts = g.counts; names = map (λ (n : ℕ). 0) g.names; store = g.store }

-- wrong: nothing is added to the store
abbrev pub adds_nothing : Reader
adds_nothing = altered λ s g. record { counts = g.counts; names = g.names; store = s }

-- wrong: the first bag cell, which is stored last, is read, and the others are taken for empty
abbrev emptied : List Cell → List Cell
emptied [] = []
emptied (c ∷ []) = c ∷ []
emptied (c ∷ d ∷ cs) = blank ∷ emptied (d ∷ cs)

abbrev pub others_empty : Reader
others_empty = altered λ s g. record { counts = g.counts; names = g.names; store = emptied g.store }

-- wrong: the references of the cell that is stored last are dropped
abbrev bare : List Cell → List Cell
bare [] = []
bare (c ∷ []) = with c [] ∷ []
bare (c ∷ d ∷ cs) = c ∷ bare (d ∷ cs)

abbrev pub drops_references : Reader
drops_references = altered λ s g. record { counts = g.counts; names = g.names; store = bare g.store }

-- wrong: the bytes used are made up: one more than were read
abbrev pub used_made_up : Reader
used_made_up = altered λ s g. record {
  counts = record { used = suc g.counts.used; cells = g.counts.cells; roots = g.counts.roots; added = g.counts.added };
  names = g.names;
  store = g.store;
}

-- wrong: the count of the cells added is made up
abbrev pub count_made_up : Reader
count_made_up = altered λ s g. record {
  counts = record { used = g.counts.used; cells = g.counts.cells; roots = g.counts.roots; added = g.counts.cells };
  names = g.names;
  store = g.store;
}

-- the definition
abbrev pub reader : Reader
reader = read

-- a bag: a cell with the byte aa that refers to one with bb, and another one with bb
abbrev pub sample : List ℕ
sample =
    0xb5 ∷ 0xee ∷ 0x9c ∷ 0x72 ∷ 0x01 ∷ 0x01 ∷ 0x03 ∷ 0x01 ∷ 0x00 ∷ 0x0a ∷ 0x00
    ∷ 0x01 ∷ 0x02 ∷ 0xaa ∷ 0x01 ∷ 0x00 ∷ 0x02 ∷ 0xbb ∷ 0x00 ∷ 0x02 ∷ 0xbb ∷ []

abbrev byte_cell : ℕ → List ℕ → Cell
byte_cell x rs = record { exotic = 0; len = 8; bytes = x ∷ []; refs = rs }

abbrev sample_read : Bag
sample_read = record { used = 21; cells = byte_cell 0xaa (1 ∷ []) ∷ byte_cell 0xbb [] ∷ byte_cell 0xbb [] ∷ []; roots = 0 ∷ [] }

abbrev pub sample_got : Got
sample_got = record {
  counts = record { used = 21; cells = 3; roots = 1; added = 2 };
  names = 1 ∷ [];
  store = byte_cell 0xbb [] ∷ byte_cell 0xaa (0 ∷ []) ∷ [];
}

sample-bag : bag true 6 1 sample ≡ Ok sample_read
unfolding bag header field chunk tag_ok layout root_list index numbers raw_cell bits checksum
sample-bag = refl

pub sample-read : read true 6 1 2 [] sample ≡ Ok sample_got
unfolding read
sample-read = rw sample-bag

-- what a reader that alters the answer has to mean on the sample
pub sample-means : (f : List Cell → Got → Got) → ReadMeans (altered f) → Means [] sample sample_read (f [] sample_got)
sample-means f H =
    let e : altered f true 6 1 2 [] sample ≡ Ok (f [] sample_got) = rw sample-read in
    let r = H true 6 1 2 [] sample (f [] sample_got) (λ i h. absurd (not-suc-le-zero h)) (are-small sample refl) e in
    let q : r.0 ≡ sample_read = let x = r.1 in let y = sample-bag in cc in
    rw q at r.2

pub zero_always_shut_out : ¬ ReadMeans zero_always
zero_always_shut_out H = let t = (sample-means _ H).root 0 (omega arith) in no cc

pub adds-nothing_shut_out : ¬ ReadMeans adds_nothing
adds-nothing_shut_out H = not-suc-le-zero ((sample-means _ H).held 0 (omega arith))

pub others_empty_shut_out : ¬ ReadMeans others_empty
others_empty_shut_out H = let t = (sample-means _ H).root 0 (omega arith) in no cc

pub drops_references_shut_out : ¬ ReadMeans drops_references
drops_references_shut_out H = let t = (sample-means _ H).root 0 (omega arith) in no cc

pub count-made-up_shut_out : ¬ ReadMeans count_made_up
count-made-up_shut_out H = let e = (sample-means _ H).added in omega arith

-- ---- demand 3

abbrev pub Demands3 : (Memory → Call → Memory) → Type 0
Demands3 leaves = (m : Memory) → Reached leaves m → Demand3 m

-- wrong: an add never finds, and appends every cell
abbrev pub never_finds : Memory → Call → Memory
never_finds m clear = after m clear
never_finds m (add-cell b) = left (laid {A = ℕ} m.table (cells m ++ cell_in b ∷ []) (Ok m.count))
never_finds m (read-bag whole scratch roots reply) = after m (read-bag whole scratch roots reply)

-- the definition
abbrev pub leaves_of : Memory → Call → Memory
leaves_of = after

-- an empty cell is added twice to a store of two records
abbrev start : Memory
start = never_finds (record { count = 0; table = replicate 14 0; bytes = replicate 256 0 }) clear

abbrev empty : Call
empty = add-cell (new_builder false)

abbrev twice : Memory
twice = never_finds (never_finds start empty) empty

empty-typed : Typed (new_builder false)
empty-typed = record { many = omega arith; small = are-small (replicate 128 0) refl }

twice-reached : Reached never_finds twice
unfolding clearing sized
twice-reached =
    called (never_finds start empty) empty
    (called start empty (cleared (record { count = 0; table = replicate 14 0; bytes = replicate 256 0 }) refl) empty-typed)
    empty-typed

pub never_finds_shut_out : ¬ Demands3 never_finds
unfolding clearing sized cells_of cell_at lay_table lay_bytes rows blocks cropped
never_finds_shut_out H =
    let n : twice.count ≡ 2 = refl in
    no (((H twice twice-reached).same 0 1 (omega arith) (omega arith)).1 refl)

-- ---- writing

-- what is written of a held cell is the grammar's text of its listing
abbrev pub WritesListing : (Bool → Bool → List Cell → ℕ → List ℕ) → Type 0
WritesListing wrote =
    (has_idx has_crc : Bool) (s : List Cell) (root : ℕ) → Low s → ((x : ℕ) → x < length s → Fit (at s x)) → length s ≤ max_cells → root < length s
    → Writes has_idx has_crc s root (wrote has_idx has_crc s root)

-- wrong: the root is listed twice
abbrev pub lists_twice : Bool → Bool → List Cell → ℕ → List ℕ
lists_twice has_idx has_crc s root = bag_bytes has_idx has_crc (bag_cells s (root ∷ order_of s root))

-- wrong: nothing is written, so that there is nothing to read back
abbrev pub writes_nothing : Bool → Bool → List Cell → ℕ → List ℕ
writes_nothing has_idx has_crc s root = []

-- the definition
abbrev pub writer : Bool → Bool → List Cell → ℕ → List ℕ
writer = write

-- an empty cell, and one that names it twice
abbrev pub pair : List Cell
pair = blank ∷ with blank (0 ∷ 0 ∷ []) ∷ []

pub pair-low : Low pair
pair-low zero h r m = elim m [ ]
pair-low (suc zero) h r (here e) = omega arith
pair-low (suc zero) h r (there (here e)) = omega arith
pair-low (suc zero) h r (there (there x16)) = elim x16 [ ]
pair-low (suc (suc i)) h r m = absurd (omega arith)

-- ---- text and depth

-- what is answered of a cell depends on its structure alone
abbrev pub OfStructure : {A : Type 0} → (List Cell → ℕ → A) → Type 0
OfStructure asks = (s u : List Cell) → Low s → Low u → (i j : ℕ) → i < length s → j < length u → tree s i ≡ tree u j → asks s i ≡ asks u j

-- the cells printed are those of the unfolded structure
abbrev pub CountsCells : (List Cell → ℕ → ℕ) → Type 0
CountsCells count = (s : List Cell) → Low s → (i : ℕ) → i < length s → count s i ≡ cells_in (tree s i)

-- wrong: a shared cell is counted once
abbrev pub shared_once : List Cell → ℕ → ℕ
shared_once s i = length (order_of s i)

-- wrong: the number of the cell is its depth
abbrev pub number_for_depth : List Cell → ℕ → Res ℕ
number_for_depth s i = Ok i

-- the definitions
abbrev pub printed_cells : List Cell → ℕ → ℕ
printed_cells s i = tree_size (at s) i

abbrev depth_of : List Cell → ℕ → Res ℕ
depth_of = depth

pub text-of-structure : (budget room : ℕ) → OfStructure λ s i. page s i budget room
text-of-structure budget room s u S U i j hi hj e = same_text s u S U i j hi hj e budget room

pub depth-of-structure : OfStructure depth_of
depth-of-structure = same-depth

pub shared-once_shut_out : ¬ CountsCells shared_once
unfolding order_of
shared-once_shut_out H = let e = H pair pair-low 1 (omega arith) in omega arith

-- the same cell twice, as no history of calls makes it
abbrev doubled : List Cell
doubled = blank ∷ blank ∷ []

doubled-low : Low doubled
doubled-low zero h r m = elim m [ ]
doubled-low (suc zero) h r m = elim m [ ]
doubled-low (suc (suc i)) h r m = absurd (omega arith)

pub number_for_depth_shut_out : ¬ OfStructure number_for_depth
number_for_depth_shut_out H = let e = H doubled doubled doubled-low doubled-low 0 1 (omega arith) (omega arith) refl in no cc
