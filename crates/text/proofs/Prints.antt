-- Facts about prints into a buffer.
use Rattle.std.proofs.Common.{◌≡◌, ℕ, zero, suc, ◌+◌, ◌-◌, ◌*◌, ◌<◌, ◌≤◌, List, [], ◌∷◌, ◌++◌, length, get_or, Ok, Err, codes, decimal, sym, refl, ap, ◌∙◌, add-zero, add-suc, add-one, arith}
use Rattle.std.proofs.lemmas.Fmt.{length-decimal-le}
use Rattle.std.proofs.lemmas.List.{length-append}
use Rattle.text.proofs.Figures.{length_line}
use Rattle.std.proofs.lemmas.Bool.{le-leb, lt-leb}
use Rattle.mesh.specs.declared.Refusal.TheVariants.{Buffer}
use Rattle.arith.specs.Ranges.{sum}
use Rattle.arith.proofs.Rising.{sum_bounded}
use Rattle.mesh.specs.Meshes.{Mesh, faces, half}
use Rattle.mesh.specs.Sound.{Placed}
use Rattle.mesh.specs.Refusals.{number}
use Rattle.text.specs.declared.Fault.{Fault}
use Rattle.text.specs.Printing.{number_line, face_origins, face_line, face_lines, faces_text, fault_text, over, Put, printed, buffer_after}

pub printed_fits : (text buffer : List ℕ) → length text ≤ length buffer → printed text buffer ≡ Ok (length text)
unfolding printed
printed_fits text buffer h = rw (le-leb (length text) (length buffer) h)

pub printed_short : (text buffer : List ℕ) → length buffer < length text → printed text buffer ≡ Err Buffer
unfolding printed
printed_short text buffer h = rw (lt-leb (length text) (length buffer) h)

pub after_fits : (text buffer : List ℕ) → length text ≤ length buffer → buffer_after text buffer ≡ over buffer 0 text
unfolding buffer_after
after_fits text buffer h = rw (le-leb (length text) (length buffer) h)

pub after_short : (text buffer : List ℕ) → length buffer < length text → buffer_after text buffer ≡ buffer
unfolding buffer_after
after_short text buffer h = rw (lt-leb (length text) (length buffer) h)

pub ruleset prints = (printed_fits, printed_short, after_fits, after_short)

-- a text that was written from 0 on
pub answer_put : {buffer text ys : List ℕ} {n : ℕ} (whole : List ℕ) → whole ≡ text → length whole ≤ length buffer → Put buffer 0 text ys n → Ok n ≡ printed whole buffer
answer_put {buffer} {text} {ys} {n} whole e h p = ap Ok (omega (arith, p.end, ap length e)) ∙ sym (printed_fits whole buffer h)

pub buffer_put : {buffer text ys : List ℕ} {n : ℕ} (whole : List ℕ) → whole ≡ text → length whole ≤ length buffer → Put buffer 0 text ys n → ys ≡ buffer_after whole buffer
buffer_put {buffer} {text} {ys} {n} whole e h p = p.buffer ∙ ap (over buffer 0) (sym e) ∙ sym (after_fits whole buffer h)

-- ---- the report of a fault

abbrev pub fault_names : List ℕ
fault_names = codes "line field number" ++ (10 ∷ [])

pub fault_parts : (f : Fault) (n : ℕ) → n ≡ number f.refusal → fault_text f ≡ fault_names ++ number_line f.line f.field n
unfolding fault_text
fault_parts f n e = rw e

pub length_fault : (f : Fault) (n : ℕ) → n ≡ number f.refusal → length (fault_text f) ≡ 18 + length (number_line f.line f.field n)
length_fault f n e = ap length (fault_parts f n e) ∙ omega arith

-- ---- the report of a mesh

abbrev pub faces_names : List ℕ
faces_names = codes "a b c" ++ (10 ∷ [])

pub faces_parts : (m : Mesh) → faces_text m ≡ faces_names ++ face_lines m (faces m)
unfolding faces_text
faces_parts m = refl

pub length_faces : (m : Mesh) → length (faces_text m) ≡ 6 + length (face_lines m (faces m))
length_faces m = ap length (faces_parts m) ∙ omega arith

pub face_lines_more : (m : Mesh) (f : ℕ) → face_lines m (f + 1) ≡ face_lines m f ++ face_line m f
face_lines_more m f = ap (face_lines m) (add-one f)

pub face_line_is : (m : Mesh) (f : ℕ) (os : List ℕ) → os ≡ face_origins m f → number_line (get_or os 0 0) (get_or os 1 0) (get_or os 2 0) ≡ face_line m f
face_line_is m f os e = ap (λ xs. number_line (get_or xs 0 0) (get_or xs 1 0) (get_or xs 2 0)) e

-- the lines of fewer faces are shorter
face_lines_grow : (m : Mesh) (f k : ℕ) → length (face_lines m f) ≤ length (face_lines m (f + k))
face_lines_grow m f zero = rw add-zero (omega arith)
face_lines_grow m f (suc k) =
    rw add-suc (omega (arith, face_lines_grow m f k, length-append (face_lines m (f + k)) (face_line m (f + k))))

pub face_lines_below : (m : Mesh) (f n : ℕ) → f ≤ n → length (face_lines m f) ≤ length (face_lines m n)
face_lines_below m f n h = let e : f + (n - f) ≡ n = omega arith in rw e at (face_lines_grow m f (n - f))

-- the lines of the faces as a sum
pub lines_sum : (m : Mesh) (n : ℕ) → length (face_lines m n) ≡ sum (λ f. length (face_line m f)) n
lines_sum m zero = refl
lines_sum m (suc n) = length-append (face_lines m n) (face_line m n) ∙ ap (λ k. k + length (face_line m n)) (lines_sum m n)

-- a number below 1,024 has at most four digits
short_number : (n : ℕ) → n < 1024 → length (decimal n) ≤ 4
short_number n h = length-decimal-le 4 n (omega arith) (omega arith) (omega arith)

pub lines_bounded : (m : Mesh) → Placed m → sum (λ f. length (face_line m f)) (faces m) ≤ 2042 * 15
lines_bounded m p =
    let line : (f : ℕ) → f < faces m → length (face_line m f) ≤ 15 = λ f l.
    let a = p.origins (3 * f) (omega arith) in
    let b = p.origins (3 * f + 1) (omega arith) in
    let c = p.origins (3 * f + 2) (omega arith) in
    omega (
      arith,
      length_line (half m (3 * f)).origin (half m (3 * f + 1)).origin (half m (3 * f + 2)).origin,
      short_number (half m (3 * f)).origin (omega (arith, p.roomy.few)),
      short_number (half m (3 * f + 1)).origin (omega (arith, p.roomy.few)),
      short_number (half m (3 * f + 2)).origin (omega (arith, p.roomy.few)),
    ) in
    omega (arith, sum_bounded (λ f. length (face_line m f)) 15 (faces m) line, p.roomy.few)
