-- The words that are no names.
use Rattle.std.specs.Prelude.{ℕ, Bool, List, [], ◌∷◌, codes}
use Rattle.std.specs.List.{list_any}
use Rattle.std.specs.Str.{bytes_eq}

-- Each of these is reserved by IEEE 1364-2005, annex B. That the list is whole isn't claimed.
unfoldable pub reserved : List (List ℕ)
reserved =
    codes "always" ∷ codes "and" ∷ codes "assign" ∷ codes "automatic" ∷ codes "begin" ∷
    codes "buf" ∷ codes "bufif0" ∷ codes "bufif1" ∷ codes "case" ∷ codes "casex" ∷
    codes "casez" ∷ codes "cmos" ∷ codes "deassign" ∷ codes "default" ∷ codes "defparam" ∷
    codes "disable" ∷ codes "edge" ∷ codes "else" ∷ codes "end" ∷ codes "endcase" ∷
    codes "endfunction" ∷ codes "endgenerate" ∷ codes "endmodule" ∷ codes "endprimitive" ∷
    codes "endspecify" ∷ codes "endtable" ∷ codes "endtask" ∷ codes "event" ∷ codes "for" ∷
    codes "force" ∷ codes "forever" ∷ codes "fork" ∷ codes "function" ∷ codes "generate" ∷
    codes "genvar" ∷ codes "if" ∷ codes "initial" ∷ codes "inout" ∷ codes "input" ∷
    codes "integer" ∷ codes "join" ∷ codes "localparam" ∷ codes "macromodule" ∷ codes "module" ∷
    codes "nand" ∷ codes "negedge" ∷ codes "nmos" ∷ codes "nor" ∷ codes "not" ∷ codes "notif0" ∷
    codes "notif1" ∷ codes "or" ∷ codes "output" ∷ codes "parameter" ∷ codes "pmos" ∷
    codes "posedge" ∷ codes "primitive" ∷ codes "pulldown" ∷ codes "pullup" ∷ codes "real" ∷
    codes "realtime" ∷ codes "reg" ∷ codes "release" ∷ codes "repeat" ∷ codes "scalared" ∷
    codes "signed" ∷ codes "specify" ∷ codes "specparam" ∷ codes "strong0" ∷ codes "strong1" ∷
    codes "supply0" ∷ codes "supply1" ∷ codes "table" ∷ codes "task" ∷ codes "time" ∷
    codes "tran" ∷ codes "tri" ∷ codes "tri0" ∷ codes "tri1" ∷ codes "triand" ∷ codes "trior" ∷
    codes "trireg" ∷ codes "vectored" ∷ codes "wait" ∷ codes "wand" ∷ codes "weak0" ∷
    codes "weak1" ∷ codes "while" ∷ codes "wire" ∷ codes "wor" ∷ codes "xnor" ∷ codes "xor" ∷ []

-- the text is one of them
unfoldable pub is_reserved : List ℕ → Bool
is_reserved text = list_any (λ word. bytes_eq word text) reserved
