-- A game and its answer as a text for Graphviz: the definitions that the contracts cite.
pub mod Labels
pub mod Pictures
