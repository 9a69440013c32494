-- What each function promises: the number, the entries of the lent answer, and all other lent memory afterwards. A flag is set if it is not 0.
use Rattle.std.specs.Prelude.{ℕ, ◌≡◌, not, List, eqb}
use Rattle.scheme.specs.Res.{Res}
use Rattle.scheme.specs.Calls.{clearing, asking, reading, writing, measuring, printing}
use Rattle.tapunerow.specs.Answers.{number_of, entries_of, nothing, single, fields, counts, lengths}
use Rattle.tapunerow.specs.Outcomes.{offering, copying}

pub record WireClears (n : ℕ) (t d : List ℕ) (r n' : ℕ) (t' d' a' : List ℕ) : Type 0 where
  pub number : r ≡ number_of (clearing n t d).answer
  pub entries : a' ≡ entries_of 0 nothing (clearing n t d).answer
  pub count : n' ≡ (clearing n t d).count
  pub table : t' ≡ (clearing n t d).table
  pub bytes : d' ≡ (clearing n t d).bytes

pub record WireAdds (n : ℕ) (t d : List ℕ) (flag bits : ℕ) (own refs : List ℕ) (r n' : ℕ) (t' d' a' : List ℕ) : Type 0 where
  pub number : r ≡ number_of (offering n t d flag bits own refs).answer
  pub entries : a' ≡ entries_of 0 single (offering n t d flag bits own refs).answer
  pub count : n' ≡ (offering n t d flag bits own refs).count
  pub table : t' ≡ (offering n t d flag bits own refs).table
  pub bytes : d' ≡ (offering n t d flag bits own refs).bytes

pub record WireAsks (n : ℕ) (t d : List ℕ) (i r : ℕ) (a' : List ℕ) : Type 0 where
  pub number : r ≡ number_of (asking n t d i)
  pub entries : a' ≡ entries_of 6 fields (asking n t d i)

pub record WireCopies (n : ℕ) (t d : List ℕ) (i : ℕ) (o : List ℕ) (r : ℕ) (o' a' : List ℕ) : Type 0 where
  pub number : r ≡ number_of (copying n t d i o).answer
  pub entries : a' ≡ entries_of 0 single (copying n t d i o).answer
  pub out : o' ≡ (copying n t d i o).out

-- a cell's data copied to an output, which was o: the answer, and the output
pub record Copies (n : ℕ) (t d : List ℕ) (i : ℕ) (o : List ℕ) (r : Res ℕ) (o' : List ℕ) : Type 0 where
  pub answer : r ≡ (copying n t d i o).answer
  pub out : o' ≡ (copying n t d i o).out

pub record WireReads (whole n : ℕ) (t d s rs reply : List ℕ) (r n' : ℕ) (t' d' s' rs' a' : List ℕ) : Type 0 where
  pub number : r ≡ number_of (reading (not (eqb whole 0)) n t d s rs reply).answer
  pub entries : a' ≡ entries_of 3 counts (reading (not (eqb whole 0)) n t d s rs reply).answer
  pub count : n' ≡ (reading (not (eqb whole 0)) n t d s rs reply).count
  pub table : t' ≡ (reading (not (eqb whole 0)) n t d s rs reply).table
  pub bytes : d' ≡ (reading (not (eqb whole 0)) n t d s rs reply).bytes
  pub scratch : s' ≡ (reading (not (eqb whole 0)) n t d s rs reply).scratch
  pub roots : rs' ≡ (reading (not (eqb whole 0)) n t d s rs reply).roots

pub record WireWrites (idx crc n : ℕ) (t d : List ℕ) (i : ℕ) (s o : List ℕ) (r : ℕ) (s' o' a' : List ℕ) : Type 0 where
  pub number : r ≡ number_of (writing (not (eqb idx 0)) (not (eqb crc 0)) n t d i s o).answer
  pub entries : a' ≡ entries_of 0 single (writing (not (eqb idx 0)) (not (eqb crc 0)) n t d i s o).answer
  pub scratch : s' ≡ (writing (not (eqb idx 0)) (not (eqb crc 0)) n t d i s o).scratch
  pub out : o' ≡ (writing (not (eqb idx 0)) (not (eqb crc 0)) n t d i s o).out

pub record WireMeasures (n : ℕ) (t d : List ℕ) (i : ℕ) (s : List ℕ) (r : ℕ) (s' a' : List ℕ) : Type 0 where
  pub number : r ≡ number_of (measuring n t d i s).answer
  pub entries : a' ≡ entries_of 0 single (measuring n t d i s).answer
  pub scratch : s' ≡ (measuring n t d i s).scratch

pub record WirePrints (n : ℕ) (t d : List ℕ) (i budget : ℕ) (s o : List ℕ) (r : ℕ) (s' o' a' : List ℕ) : Type 0 where
  pub number : r ≡ number_of (printing n t d i budget s o).answer
  pub entries : a' ≡ entries_of 1 lengths (printing n t d i budget s o).answer
  pub scratch : s' ≡ (printing n t d i budget s o).scratch
  pub out : o' ≡ (printing n t d i budget s o).out
