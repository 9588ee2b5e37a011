-- The texts of a sample: its programs, and the lines of its summary; and the usage line. What is listed of a sample and of words
-- that are no command rests on it.
use Rattle.std.specs.Prelude.{◌++◌, ◌-◌, ◌==◌, ℕ, zero, suc, List, codes, decimal, get_or, if◌then◌else◌, length, nat_eq, take}
use Rattle.nf_top.specs.declared.status.Status.{Status}
use Rattle.nf_top.specs.declared.status.Status.TheVariants as status
use Rattle.nf_command.specs.declared.size.SampleSize.{SampleSize}

-- The program that a sample is run by: its sets by their names, and `k` for the certificate.
abbrev pub run_text : SampleSize → List ℕ
run_text n =
    if nat_eq n.cons 0 then codes "proc netflow arcdata=arcs nodedata=nodes certout=k; run;"
    else codes "proc netflow arcdata=arcs nodedata=nodes condata=cons sparsecondata certout=k; run;"

-- The program that its certificate is checked by.
abbrev pub check_text : SampleSize → List ℕ
check_text n =
    if nat_eq n.cons 0 then codes "proc netflow arcdata=arcs nodedata=nodes certdata=k;"
    else codes "proc netflow arcdata=arcs nodedata=nodes condata=cons sparsecondata certdata=k;"

-- The first line of a summary: the seed and the sizes.
abbrev pub sample_line : SampleSize → List ℕ
sample_line n =
    codes "SAMPLE SEED " ++ (decimal n.seed ++ (codes " NODES " ++ (decimal n.nodes ++ (codes " ARCS " ++ (decimal n.arcs
    ++ (codes " CONSTRAINTS " ++ (decimal n.cons ++ codes "\n")))))))

-- Where the line that ends at place n begins: after the last line feed before this place.
unfoldable pub line_start : List ℕ → ℕ → ℕ
line_start text zero = zero
line_start text (suc n) = if get_or text n 0 == 10 then suc n else line_start text n

-- The lines of a text but its last one.
abbrev pub but_last_line : List ℕ → List ℕ
but_last_line text = take (line_start text (length text - 1)) text

-- What a summary has of a run: its lines but the last, which says what it stored; or, if it did not finish, all.
abbrev pub run_lines : Status → List ℕ → List ℕ
run_lines status.Finished listed = but_last_line listed
run_lines _ listed = listed

-- What a summary says of the check of the certificate: that it is accepted, or the line of its refusal.
abbrev pub check_lines : Status → List ℕ → List ℕ
check_lines status.Finished listed = codes "CHECK ACCEPTED\n"
check_lines _ listed = listed

-- What the words may be.
abbrev pub usage_line : List ℕ
usage_line = codes "USAGE netflow run | netflow check | netflow sample SEED NODES ARCS CONS | netflow import | netflow export\n"
