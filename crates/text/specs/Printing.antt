-- Texts that are put into a lent buffer.
use Rattle.std.specs.Prelude.{◌≡◌, ℕ, zero, suc, ◌+◌, ◌*◌, cond, List, [], ◌∷◌, ◌++◌, length, take, drop, Ok, Err, codes, decimal, Result, nat_le}
use Rattle.mesh.specs.Meshes.{Mesh, half, faces}
use Rattle.mesh.specs.Refusals.{number}
use Rattle.mesh.specs.Sound.{is_sound}
use Rattle.mesh.specs.declared.Refusal.{Refusal}
use Rattle.mesh.specs.declared.Refusal.TheVariants.{Unsound, Buffer}
use Rattle.text.specs.declared.Fault.{Fault}

-- ---- texts

-- three numbers, parted by one space; byte 10 ends a line
abbrev pub number_line : ℕ → ℕ → ℕ → List ℕ
number_line a b c = decimal a ++ (32 ∷ (decimal b ++ (32 ∷ (decimal c ++ (10 ∷ [])))))

-- the origins of the half-edges of face f
abbrev pub face_origins : Mesh → ℕ → List ℕ
face_origins m f = (half m (3 * f)).origin ∷ (half m (3 * f + 1)).origin ∷ (half m (3 * f + 2)).origin ∷ []

-- the line of face f
abbrev pub face_line : Mesh → ℕ → List ℕ
face_line m f = number_line (half m (3 * f)).origin (half m (3 * f + 1)).origin (half m (3 * f + 2)).origin

-- the lines of the faces below n
abbrev pub face_lines : Mesh → ℕ → List ℕ
face_lines m zero = []
face_lines m (suc n) = face_lines m n ++ face_line m n

-- the report of a mesh
unfoldable pub faces_text : Mesh → List ℕ
faces_text m = codes "a b c" ++ (10 ∷ face_lines m (faces m))

-- the report of a fault
unfoldable pub fault_text : Fault → List ℕ
fault_text f = codes "line field number" ++ (10 ∷ number_line f.line f.field (number f.refusal))

-- ---- buffers

-- what a buffer holds once a text is written over it from `at` on
abbrev pub over : List ℕ → ℕ → List ℕ → List ℕ
over buffer at text = take at buffer ++ (text ++ drop (at + length text) buffer)

-- from xs to ys a text was written over what stood from `at` to n
pub record Put (xs : List ℕ) (at : ℕ) (text : List ℕ) (ys : List ℕ) (n : ℕ) : Type 0 where
  pub buffer : ys ≡ over xs at text
  pub end : n ≡ at + length text
  pub kept : length ys ≡ length xs

-- the answer of a print: how long the text is, or that it does not fit
unfoldable pub printed : List ℕ → List ℕ → Result ℕ Refusal
printed text buffer = cond (nat_le (length text) (length buffer)) (Ok (length text)) (Err Buffer)

-- what the buffer then holds: a text that does not fit changes nothing
unfoldable pub buffer_after : List ℕ → List ℕ → List ℕ
buffer_after text buffer = cond (nat_le (length text) (length buffer)) (over buffer 0 text) buffer

-- ---- reports

-- the answer of a report: an unsound mesh has none
unfoldable pub reported : Mesh → List ℕ → Result ℕ Refusal
reported m buffer = cond (is_sound m) (printed (faces_text m) buffer) (Err Unsound)

unfoldable pub buffer_reported : Mesh → List ℕ → List ℕ
buffer_reported m buffer = cond (is_sound m) (buffer_after (faces_text m) buffer) buffer
