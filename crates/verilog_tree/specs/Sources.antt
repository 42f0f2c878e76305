-- A module as it is written: its header, its declarations and its lists, and not yet its tree.
-- IEEE Std 1364-2001: modules and ports, data types, gate-level modelling, continuous assignments.
use Rattle.std.specs.Prelude.{ℕ, List, Option, Bool}
use Rattle.verilog_tree.specs.declared.tree.Dir.{Dir}
use Rattle.verilog_tree.specs.declared.tree.Range.{Range}
use Rattle.verilog_tree.specs.declared.tree.GateKind.{GateKind}
use Rattle.verilog_tree.specs.declared.tree.Bit.{Bit}
use Rattle.verilog_tree.specs.declared.tree.Operand.{Operand}
use Rattle.verilog_tree.specs.declared.tree.Link.{Link}

-- dir ["wire"] [range]
pub record DeclarationHead : Type 0 where
  pub dir : Dir
  pub wire : Bool
  pub range : Option Range

-- [ dir ["wire"] [range] ] name
pub record PortSource : Type 0 where
  pub head : Option DeclarationHead
  pub name : List ℕ

pub data Header : Type 0 where
  -- nothing between the module's name and the semicolon
  absent : Header
  -- "(" ")"
  empty : Header
  -- "(" port {"," port} ")", of which the first has a direction
  ansi : DeclarationHead → List ℕ → List PortSource → Header
  -- "(" name {"," name} ")"
  names : List ℕ → List (List ℕ) → Header

-- bit "=" arg
pub record AssignSource : Type 0 where
  pub output : Bit
  pub input : Operand

-- [name] "(" bit "," arg {"," arg} ")"
pub record GateSource : Type 0 where
  pub name : Option (List ℕ)
  pub output : Bit
  pub first : Operand
  pub more : List Operand

-- name "(" [link {"," link}] ")"
pub record InstanceSource : Type 0 where
  pub name : List ℕ
  pub links : List Link

pub data ItemSource : Type 0 where
  -- dir ["wire"] [range] name {"," name} ";"
  directions : DeclarationHead → List ℕ → List (List ℕ) → ItemSource
  -- "wire" [range] name {"," name} ";"
  wires : Option Range → List ℕ → List (List ℕ) → ItemSource
  -- "assign" bit "=" arg {"," bit "=" arg} ";"
  assigns : AssignSource → List AssignSource → ItemSource
  -- gate kind, gate {"," gate} ";"
  gates : GateKind → GateSource → List GateSource → ItemSource
  -- cell name, instance {"," instance} ";"
  instances : List ℕ → InstanceSource → List InstanceSource → ItemSource

pub record Source : Type 0 where
  pub name : List ℕ
  pub header : Header
  pub items : List ItemSource
