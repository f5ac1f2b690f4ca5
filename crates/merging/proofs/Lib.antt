mod RunWords
mod LinedColumns
mod MergedColumns
mod Slices
