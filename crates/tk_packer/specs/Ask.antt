-- Meaning. What a request asks for along one axis.
use Rattle.std.specs.Prelude.{ℕ, ◌+◌, ◌*◌, Bool, true, false, Option, Some, None}
use Rattle.tk_packer.specs.declared.ask.Axis.{Axis}
use Rattle.tk_packer.specs.declared.ask.Axis.TheVariants.{Horizontal, Vertical}
use Rattle.tk_packer.specs.declared.ask.Edge.{Edge}
use Rattle.tk_packer.specs.declared.ask.Edge.TheVariants.{Near, Far}
use Rattle.tk_packer.specs.declared.ask.Align.{Align}
use Rattle.tk_packer.specs.declared.ask.Align.TheVariants.{ToNear, Centered, ToFar}
use Rattle.tk_packer.specs.declared.ask.Ask.{Ask}
use Rattle.tk_packer.specs.declared.request.Side.{Side}
use Rattle.tk_packer.specs.declared.request.Side.TheVariants.{Top, Bottom, Left, Right}
use Rattle.tk_packer.specs.declared.request.Anchor.{Anchor}
use Rattle.tk_packer.specs.declared.request.Anchor.TheVariants.{Center, N, Ne, E, Se, S, Sw, W, Nw}
use Rattle.tk_packer.specs.declared.request.Fill.{Fill}
use Rattle.tk_packer.specs.declared.request.Fill.TheVariants.{None as Neither, X, Y, Both}
use Rattle.tk_packer.specs.declared.request.Request.{Request}

-- what `pack` gives where no option is named
abbrev pub default_request : ℕ → ℕ → Request
default_request width height = record {
  width = width;
  height = height;
  side = Top;
  anchor = Center;
  fill = Neither;
  expand = false;
  padx = record { before = 0; after = 0 };
  pady = record { before = 0; after = 0 };
  ipadx = 0;
  ipady = 0;
}

-- the edge of the axis that a side is, if it is one of this axis
abbrev pub edge_of : Axis → Side → Option Edge
edge_of Horizontal Left = Some Near
edge_of Horizontal Right = Some Far
edge_of Vertical Top = Some Near
edge_of Vertical Bottom = Some Far
edge_of _ _ = None

-- whether a window takes the whole of its parcel along an axis
abbrev pub fills_along : Axis → Fill → Bool
fills_along axis Both = true
fills_along Horizontal X = true
fills_along Vertical Y = true
fills_along axis _ = false

-- which way an anchor draws a window along an axis
abbrev pub align_of : Axis → Anchor → Align
align_of Horizontal Nw = ToNear
align_of Horizontal W = ToNear
align_of Horizontal Sw = ToNear
align_of Horizontal N = Centered
align_of Horizontal Center = Centered
align_of Horizontal S = Centered
align_of Horizontal Ne = ToFar
align_of Horizontal E = ToFar
align_of Horizontal Se = ToFar
align_of Vertical Nw = ToNear
align_of Vertical N = ToNear
align_of Vertical Ne = ToNear
align_of Vertical W = Centered
align_of Vertical Center = Centered
align_of Vertical E = Centered
align_of Vertical Sw = ToFar
align_of Vertical S = ToFar
align_of Vertical Se = ToFar

unfoldable pub ask_of : Axis → Request → Ask
ask_of Horizontal r = record {
  edge = edge_of Horizontal r.side;
  expands = r.expand;
  size = r.width;
  ipad = r.ipadx;
  before = r.padx.before;
  after = r.padx.after;
  fills = fills_along Horizontal r.fill;
  align = align_of Horizontal r.anchor;
}
ask_of Vertical r = record {
  edge = edge_of Vertical r.side;
  expands = r.expand;
  size = r.height;
  ipad = r.ipady;
  before = r.pady.before;
  after = r.pady.after;
  fills = fills_along Vertical r.fill;
  align = align_of Vertical r.anchor;
}

-- the window's own length, and that with its pads
abbrev pub inner_length : Ask → ℕ
inner_length ask = ask.size + 2 * ask.ipad

abbrev pub outer_length : Ask → ℕ
outer_length ask = inner_length ask + ask.before + ask.after
